-- What the elements of a list give, each with the one before it.
use Rattle.std.specs.Prelude.{ℕ, ◌≡◌, ◌+◌, ◌≤◌, List, [], ◌∷◌, ◌++◌, Option, Some, None}

-- what elements give, the first of which stands at place k and follows `before`
abbrev pub neighbours_from : {X E : Type 0} → (ℕ → Option X → X → List E) → ℕ → Option X → List X
    → List E
neighbours_from f k before [] = []
neighbours_from f k before (now ∷ later) =
    f k before now ++ neighbours_from f (k + 1) (Some now) later

-- what f gives at each place, from the element before it (none at place 0) and the element there
abbrev pub at_neighbours : {X E : Type 0} → (ℕ → Option X → X → List E) → List X → List E
at_neighbours f list = neighbours_from f 0 None list

-- the last element of a list, else the one before the list
abbrev pub last_from : {X : Type 0} → Option X → List X → Option X
last_from before [] = before
last_from before (x ∷ xs) = last_from (Some x) xs

-- the last element of a list
abbrev pub last_of : {X : Type 0} → List X → Option X
last_of list = last_from None list

-- each of some events stands at place k
abbrev pub AllAt : {E : Type 0} → (E → ℕ) → ℕ → List E → Type 0
AllAt place k [] = Unit {0}
AllAt place k (e ∷ es) = (place e ≡ k) × AllAt place k es

-- the places of events never fall, and none is below `low`
abbrev pub Rise : {E : Type 0} → (E → ℕ) → ℕ → List E → Type 0
Rise place low [] = Unit {0}
Rise place low (e ∷ es) = (low ≤ place e) × Rise place (place e) es
