-- What rises.
use Rattle.std.specs.Prelude.{ℕ, List, [], ◌∷◌, Option, Some, None, nat_lt, if◌then◌else◌}

-- the place of a number that is above the one before it
abbrev pub rising : ℕ → Option ℕ → ℕ → List ℕ
rising place None now = []
rising place (Some before) now = if nat_lt before now then place ∷ [] else []
