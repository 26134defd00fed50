-- What the reader finds in a line, and what its fields say.
use Rattle.std.specs.Prelude.{ℕ, ◌≡◌, ◌==◌, Bool, false, if◌then◌else◌, List, get_or, Option, Some}
use Rattle.std.specs.Prelude.{None, Ok, Err}
use Rattle.la_io.specs.declared.fault.CaptureFault.TheVariants.{Field}
use Rattle.capture_csv.specs.Csv.{level_of, levels_of}

abbrev pub is_comma : ℕ → Bool
is_comma byte = byte == 44

-- the level that a field says, wherever it stands; or it says none
abbrev pub LevelIs : List ℕ → Option Bool → Type 0
LevelIs field (Some level) = (line column : ℕ) → level_of line column field ≡ Ok level
LevelIs field None = (line column : ℕ) → level_of line column field ≡ Err (Field line column)

-- the levels of fields, the first of which stands in this column; or the column of the first fault
abbrev pub LevelsRead : ℕ → List (List ℕ) → List Bool → Option ℕ → Type 0
LevelsRead column fields levels None = (line : ℕ) → levels_of line column fields ≡ Ok levels
LevelsRead column fields levels (Some bad) =
    (line : ℕ) → levels_of line column fields ≡ Err (Field line bad)

-- the level of a channel, as a number
abbrev pub level_bit : List Bool → ℕ → ℕ
level_bit levels pin = if get_or levels pin false then 1 else 0
