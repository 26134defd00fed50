-- What the items of a list give, each with all those before it.
use Rattle.std.specs.Prelude.{List, [], ◌∷◌, ◌++◌}

-- what f gives at each item, from the items before it, the first of which stand in `before`
abbrev pub along_from : {X Y : Type 0} → (List X → X → List Y) → List X → List X → List Y
along_from f before [] = []
along_from f before (x ∷ xs) = f before x ++ along_from f (before ++ x ∷ []) xs

-- what f gives at each item, from the items before it
abbrev pub along : {X Y : Type 0} → (List X → X → List Y) → List X → List Y
along f list = along_from f [] list
