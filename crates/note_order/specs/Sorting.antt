-- Lists put in order by a test, where elements that tie keep their order.
use Rattle.std.specs.Prelude.{Bool, List, [], ◌∷◌, if◌then◌else◌}

module _ {X : Type 0} (lt : X → X → Bool) where
  -- an element is put before the first that isn't less than it
  abbrev pub inserted : X → List X → List X
  inserted x [] = x ∷ []
  inserted x (y ∷ ys) = if lt y x then y ∷ inserted x ys else x ∷ y ∷ ys

  -- a list in order
  abbrev pub sorted : List X → List X
  sorted [] = []
  sorted (x ∷ xs) = inserted x (sorted xs)
