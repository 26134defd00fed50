-- What is so at one place of a tree, and what stays at all others.
use Rattle.std.proofs.Common.{◌≡◌, ◌≢◌, ◌⊎◌, inl, inr, ℕ, Bool, true, false, ◌||◌, List, [], ◌++◌, slice_get, Option, Some, None, sym, ◌∙◌, ap, subst, arith, append-nil, if◌then◌else◌, refl}
use Rattle.std.specs.Prelude.{nat_eq}
use Rattle.std.proofs.lemmas.Bool.{cases_eq}
use Rattle.std.proofs.lemmas.Bool.Decides.{nat_tests}
use Rattle.stack_laws.specs.Running.{stands_on}
use Rattle.stack_laws.specs.Events.{more_at, to}

-- a fact at one place, and at all others
pub at_place : (F : ℕ → Bool → Type 0) (i : ℕ) → F i true → ((j : ℕ) → F j false) → (j : ℕ) → F j (nat_eq j i)
at_place F i here others j = way (cases_eq j i)
  where
    way : (j ≡ i) ⊎ (j ≢ i) → F j (nat_eq j i)
    way (inl same) = let is : nat_eq j i ≡ true = grind (arith, nat_tests) in subst (F j) (sym is) (subst (λ (k : ℕ). F k true) (sym same) here)
    way (inr apart) = let is : nat_eq j i ≡ false = grind (arith, nat_tests) in subst (F j) (sym is) (others j)

-- a fact at the place itself
pub at_self : (F : Bool → Type 0) (i : ℕ) → F true → F (nat_eq i i)
at_self F i is = let same : nat_eq i i ≡ true = grind (arith, nat_tests) in subst F (sym same) is

-- it stands on i
pub stands_is : (place : Option (Option ℕ)) (i : ℕ) → stands_on place (Some i) ≡ true → place ≡ Some (Some i)
stands_is None i is = absurd cc
stands_is (Some None) i is = absurd cc
stands_is (Some (Some p)) i is = let same : p ≡ i = grind (arith, nat_tests) in λ k. Some (Some (same k))

-- a test that holds at one place alone
pub or_none : (b : Bool) → (b || false) ≡ b
or_none true = refl
or_none false = refl

pub or_all : (b : Bool) → (b || true) ≡ true
or_all true = refl
or_all false = refl

module _ {T : Type 0} where
  -- what grows at one place grows there
  pub grows_here : (i : ℕ) (xs ys : List T) → more_at i xs i ys ≡ ys ++ xs
  grows_here i xs ys = at_self (λ b. ys ++ (if b then xs else []) ≡ ys ++ xs) i refl

  -- and stays at all others
  pub stays_at : (i j : ℕ) (xs ys : List T) → j ≢ i → more_at i xs j ys ≡ ys
  stays_at i j xs ys apart = let is : nat_eq j i ≡ false = grind (arith, nat_tests) in (λ k. ys ++ (if is k then xs else [])) ∙ append-nil ys

  module _ (parents : List (Option ℕ)) (i : ℕ) where
    -- what is made for those that stand on a stage joins what was made for a child of it
    pub to_child : (child : ℕ) (xs : List T) → slice_get parents child ≡ Some (Some i) → to parents (Some i) xs child ≡ xs
    to_child child xs on = ap (λ (o : Option (Option ℕ)). if stands_on o (Some i) then xs else []) on ∙ at_self (λ b. (if b then xs else []) ≡ xs) i refl

    -- and is made for no others
    pub stays_to : (j : ℕ) (xs ys : List T) → stands_on (slice_get parents j) (Some i) ≡ false → ys ++ to parents (Some i) xs j ≡ ys
    stays_to j xs ys off = (λ k. ys ++ (if off k then xs else [])) ∙ append-nil ys

    -- what is sent to a child is sent to no instance that doesn't stand on the stage
    pub stays_child : (child j : ℕ) (xs ys : List T) → slice_get parents child ≡ Some (Some i) → stands_on (slice_get parents j) (Some i) ≡ false → more_at child xs j ys ≡ ys
    stays_child child j xs ys on off = stays_at child j xs ys (λ same.
        let stands : stands_on (slice_get parents j) (Some i) ≡ true =
        ap (λ (k : ℕ). stands_on (slice_get parents k) (Some i)) same ∙ ap (λ (o : Option (Option ℕ)). stands_on o (Some i)) on ∙ at_self (λ b. b ≡ true) i refl in
        let no : true ≡ false = sym stands ∙ off in absurd cc)
