-- Fronts of lists, and the end among elements.
use Rattle.std.proofs.Common.{◌≡◌, Bool, true, false, ◌||◌, List, [], ◌∷◌, ◌++◌, length, drop, refl, sym, ◌∙◌, ap, append_assoc}
use Rattle.std.proofs.Math.Seq.{drop-append_seam}
use Rattle.stack_laws.specs.Links.{IsFront, IsNext, EndsLast, some}

module _ {T : Type 0} where
  pub front_more : (xs ys zs : List T) → IsFront xs ys → IsFront xs (ys ++ zs)
  front_more xs ys zs front = (front.0 ++ zs, ap (λ (l : List T). l ++ zs) front.1 ∙ append_assoc xs front.0 zs)

  pub front_next : (xs ys : List T) (x : T) → IsNext xs x ys → IsFront (xs ++ x ∷ []) ys
  front_next xs ys x next = (next.0, next.1 ∙ sym (append_assoc xs (x ∷ []) next.0))

  pub front_trans : (xs ys zs : List T) → IsFront xs ys → IsFront ys zs → IsFront xs zs
  front_trans xs ys zs one other = (one.0 ++ other.0, other.1 ∙ ap (λ (l : List T). l ++ other.0) one.1 ∙ append_assoc xs one.0 other.0)

  -- what is behind a front
  pub behind_front : (xs all : List T) → IsFront xs all → all ≡ xs ++ drop (length xs) all
  behind_front xs all front = front.1 ∙ ap (λ (l : List T). xs ++ l) (sym (drop-append_seam xs front.0) ∙ ap (drop (length xs)) (sym front.1))

  module _ (test : T → Bool) where
    pub some-append : (xs ys : List T) → some test (xs ++ ys) ≡ (some test xs || some test ys)
    some-append [] ys = refl
    some-append (x ∷ xs) ys = way (test x) (some test (xs ++ ys)) (some test xs) (some test ys) (some-append xs ys)
      where
        way : (a b c d : Bool) → b ≡ (c || d) → (a || b) ≡ ((a || c) || d)
        way true b c d is = refl
        way false b c d is = is

    pub some_front : (xs ys : List T) → IsFront xs ys → some test xs ≡ true → some test ys ≡ true
    some_front xs ys front is = ap (some test) front.1 ∙ some-append xs front.0 ∙ ap (λ (b : Bool). b || some test front.0) is

    pub or_false : (a b : Bool) → (a || b) ≡ false → (a ≡ false) × (b ≡ false)
    or_false true b is = absurd cc
    or_false false b is = (refl, is)

    -- behind elements among which the end isn't
    pub ends_last-append : (xs ys : List T) → some test xs ≡ false → EndsLast test ys → EndsLast test (xs ++ ys)
    ends_last-append [] ys none last = last
    ends_last-append (x ∷ xs) ys none last =
        let parts = or_false (test x) (some test xs) none in
        (λ is. let no : true ≡ false = sym is ∙ parts.0 in absurd cc, ends_last-append xs ys parts.1 last)

    -- where the end is among the first elements, nothing is behind them
    pub none_behind : (xs ys : List T) → EndsLast test (xs ++ ys) → some test xs ≡ true → ys ≡ []
    none_behind [] ys last is = absurd cc
    none_behind (x ∷ xs) ys last is = way (test x) refl is (none_behind xs ys last.1)
      where
        nothing : (xs ys : List T) → xs ++ ys ≡ [] → ys ≡ []
        nothing [] ys e = e
        nothing (x ∷ xs) ys e = absurd cc

        way : (b : Bool) → test x ≡ b → (b || some test xs) ≡ true → (some test xs ≡ true → ys ≡ []) → ys ≡ []
        way true e is rest = nothing xs ys (last.0 e)
        way false e is rest = rest is
