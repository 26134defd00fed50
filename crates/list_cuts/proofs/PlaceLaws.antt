-- The first and the last place with one more event.
use Rattle.std.proofs.Common.{◌≡◌, ℕ, suc, List, [], ◌∷◌, ◌++◌, length, refl, sym, if◌then◌else◌, ◌==◌}
use Rattle.list_cuts.specs.Places.{first_place, last_place}
use Rattle.list_cuts.proofs.TestLaws.{when_no, suc_no}

module _ {E : Type 0} (place : E → ℕ) where
  pub first_push : (es : List E) (e : E) → first_place place (es ++ e ∷ []) ≡ (if length es == 0 then place e else first_place place es)
  first_push [] e = refl
  first_push (d ∷ es) e = sym (when_no (suc (length es) == 0) (place e) (place d) (suc_no (length es)))

  pub last_push : (es : List E) (e : E) → last_place place (es ++ e ∷ []) ≡ place e
  last_push [] e = refl
  last_push (d ∷ []) e = refl
  last_push (d ∷ c ∷ es) e = last_push (c ∷ es) e
