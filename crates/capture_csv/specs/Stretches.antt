-- The levels behind all records, and records before and behind a time.
use Rattle.std.specs.Prelude.{ℕ, ◌≤◌, Bool, List, [], ◌∷◌}
use Rattle.capture_csv.specs.Csv.{Taken}

-- the levels of the last record
abbrev pub levels_now : List Bool → List Taken → List Bool
levels_now so_far [] = so_far
levels_now so_far (taken ∷ rest) = levels_now taken.levels rest

-- no time is later
abbrev pub TimesTo : ℕ → List Taken → Type 0
TimesTo end [] = Unit {0}
TimesTo end (taken ∷ rest) = (taken.time ≤ end) × TimesTo end rest

-- no time is earlier
abbrev pub LateFrom : ℕ → List Taken → Type 0
LateFrom end [] = Unit {0}
LateFrom end (taken ∷ rest) = (end ≤ taken.time) × LateFrom end rest
