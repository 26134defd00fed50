-- Lists that were gone through whole, or up to where something stopped on the way.
use Rattle.std.specs.Prelude.{◌≡◌, Bool, true, false, List, ◌++◌}

-- all of a list; or, where it was stopped on the way, a front of it
abbrev pub Reaches : {X : Type 0} → Bool → List X → List X → Type 0
Reaches {X} true xs ys = xs ≡ ys
Reaches {X} false xs ys = (rest : List X) × (xs ++ rest ≡ ys)
