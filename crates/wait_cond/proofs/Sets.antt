-- The set of alternatives that are met, one alternative after another.
use Rattle.std.proofs.Common.{◌≡◌, ◌⊎◌, inl, inr, ⊎_elim, ℕ, zero, suc, ◌*◌, ◌^◌, ◌%◌, ◌<◌, List, [], ◌∷◌, ◌++◌, length, bit_or, slice_get, Option, Some, refl, sym, ◌∙◌, ap, subst, arith, w8}
use Rattle.std.specs.Int.{bit_at}
use Rattle.std.proofs.lemmas.Nat.Bits.{bit_at_set_same, bit_at_set_other, bit_at-zero}
use Rattle.std.proofs.lemmas.Option.{slice_get_within}
use Rattle.std.proofs.lemmas.Bool.{cases_eq}
use Rattle.wait_cond.specs.Meets.{MeetsAt}
use Rattle.wait_cond.specs.Stops.{MetSet}
use Rattle.wait_cond.specs.declared.alt.Alt.{Alt}

pub get_push : {A : Type 0} (xs : List A) (y : A) (i : ℕ) (x : A) → slice_get (xs ++ y ∷ []) i ≡ Some x → (slice_get xs i ≡ Some x) ⊎ ((i ≡ length xs) × (y ≡ x))
get_push [] y zero x is = inr (refl, cc)
get_push [] y (suc i) x is = absurd cc
get_push (z ∷ xs) y zero x is = inl is
get_push (z ∷ xs) y (suc i) x is = ⊎_elim (λ in_front. inl in_front) (λ last. inr (ap (λ (n : ℕ). suc n) last.0, last.1)) (get_push xs y i x is)

pub get_front : {A : Type 0} (xs ys : List A) (i : ℕ) (x : A) → slice_get xs i ≡ Some x → slice_get (xs ++ ys) i ≡ Some x
get_front [] ys i x is = absurd cc
get_front (z ∷ xs) ys zero x is = is
get_front (z ∷ xs) ys (suc i) x is = get_front xs ys i x is

pub get_last : {A : Type 0} (xs : List A) (y : A) → slice_get (xs ++ y ∷ []) (length xs) ≡ Some y
get_last [] y = refl
get_last (z ∷ xs) y = get_last xs y

module _ (before : Option ℕ) (now from q : ℕ) where
  -- no alternative, none met
  pub none_yet : MetSet [] before now from q 0
  none_yet = record { each = λ i one. absurd (omega (arith, one, bit_at-zero i)); all = λ i alt there met. absurd cc }

  module _ (alts : List Alt) (alt : Alt) (met : ℕ) (so_far : MetSet alts before now from q met) where
    -- one more, which isn't met
    pub met_pass : ¬ MeetsAt alt before now from q → MetSet (alts ++ alt ∷ []) before now from q met
    met_pass not = record {
      each = λ i one. let e = so_far.each i one in (e.0, get_front alts (alt ∷ []) i e.0 e.1, e.2);
      all = λ i other there meets. ⊎_elim (λ in_front. so_far.all i other in_front meets)
          (λ last. absurd (not (subst (λ (a : Alt). MeetsAt a before now from q) (sym last.1) meets))) (get_push alts alt i other there);
    }

    -- one more, which is met
    pub met_more : (place : ℕ) → place ≡ length alts → place < 8 → MeetsAt alt before now from q → MetSet (alts ++ alt ∷ []) before now from q (bit_or met (1 * 2 ^ place % 2 ^ 8))
    met_more place is few meets = record {
      each = λ i one. elim (cases_eq i place) [
        | inl here ↦ (alt, subst (λ (n : ℕ). slice_get (alts ++ alt ∷ []) n ≡ Some alt) (sym (here ∙ is)) (get_last alts alt), meets)
        | inr other ↦ let e = so_far.each i (sym (bit_at_set_other w8 met place few i other) ∙ one) in (e.0, get_front alts (alt ∷ []) i e.0 e.1, e.2)
      ];
      all = λ i other there m. ⊎_elim
          (λ in_front. bit_at_set_other w8 met place few i (λ same. absurd (omega (arith, same, is, slice_get_within alts i other in_front))) ∙ so_far.all i other in_front m)
          (λ last. subst (λ (n : ℕ). bit_at (bit_or met (1 * 2 ^ place % 2 ^ 8)) n ≡ 1) (is ∙ sym last.0) (bit_at_set_same w8 met place few)) (get_push alts alt i other there);
    }
