-- What maximal rows are.
use Rattle.std.specs.Prelude.{◌≡◌, Bool, true, false, List, [], ◌∷◌}
use Rattle.dec_modbus.specs.Modbus.{last_in}

-- each two neighbours of a row are together
abbrev pub Chained : {X : Type 0} → (X → X → Bool) → X → List X → Type 0
Chained pair x [] = Unit {0}
Chained pair x (next ∷ others) = (pair x next ≡ true) × Chained pair next others

-- no row is empty, those in a row are together, and the last of a row and the first of the next
-- aren't
abbrev pub AreRows : {X : Type 0} → (X → X → Bool) → List (List X) → Type 0
AreRows pair [] = Unit {0}
AreRows pair ([] ∷ rows) = ⊥
AreRows pair ((x ∷ xs) ∷ []) = Chained pair x xs
AreRows pair ((x ∷ xs) ∷ [] ∷ rows) = ⊥
AreRows pair ((x ∷ xs) ∷ (y ∷ ys) ∷ rows) =
    Chained pair x xs × (pair (last_in x xs) y ≡ false) × AreRows pair ((y ∷ ys) ∷ rows)
