-- Small facts on tests and lists.
use Rattle.std.proofs.Common.{◌≡◌, ℕ, zero, suc, ◌≤◌, Bool, true, false, List, [], ◌∷◌, ◌++◌, length, drop, arith, refl, sym, ◌∙◌}

pub not_true : {b : Bool} → b ≡ false → b ≡ true → ⊥
not_true is other = contra (sym other ∙ is)
  where
    contra : true ≡ false → ⊥
    contra e = cc

pub gone : {X : Type 0} (xs : List X) (k : ℕ) → length xs ≤ k → drop k xs ≡ []
gone [] zero all = refl
gone [] (suc k) all = refl
gone (x ∷ xs) zero all = absurd (omega (arith, all))
gone (x ∷ xs) (suc k) all = gone xs k (omega (arith, all))

-- it wasn't so before
pub not_before : (before now : Bool) → (before ≡ true → now ≡ true) → now ≡ false → before ≡ false
not_before true now stays still = absurd (not_true still (stays refl))
not_before false now stays still = refl

-- a front of nothing is nothing
pub front_none : {X : Type 0} (xs ys : List X) → xs ++ ys ≡ [] → xs ≡ []
front_none {X} [] ys is = refl
front_none {X} (x ∷ xs) ys is = absurd (contra is)
  where
    contra : x ∷ (xs ++ ys) ≡ [] → ⊥
    contra e = cc
