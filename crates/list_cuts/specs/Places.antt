-- Where the first and the last of some events stand.
use Rattle.std.specs.Prelude.{ℕ, List, [], ◌∷◌}

-- the place of the first event, or 0
abbrev pub first_place : {E : Type 0} → (E → ℕ) → List E → ℕ
first_place place [] = 0
first_place place (e ∷ es) = place e

-- the place of the last event, or 0
abbrev pub last_place : {E : Type 0} → (E → ℕ) → List E → ℕ
last_place place [] = 0
last_place place (e ∷ []) = place e
last_place place (e ∷ next ∷ es) = last_place place (next ∷ es)
