-- What holds of each row of the table.
use Rattle.std.specs.Prelude.{ℕ, ◌≡◌, ◌≤◌, ◌<◌, Bool, true, nat_lt, nat_le, ◌&&◌, length}
use Rattle.std.specs.List.{list_all}
use Rattle.kind_table.specs.Kinds.{Form, Pin, Number, Choice, Row}

-- the usual value of an option is one that it takes
abbrev pub usual_fits : Form → Bool
usual_fits (Pin required) = true
usual_fits (Number least most usual) = nat_le least usual && nat_le usual most
usual_fits (Choice words) = nat_lt 0 (length words)

-- a number that an option may have: of a choice the place of a word
abbrev pub NumberFits : Form → ℕ → Type 0
NumberFits (Pin required) number = Unit {0}
NumberFits (Number least most usual) number = (least ≤ number) × (number ≤ most)
NumberFits (Choice words) number = number < length words

-- a row of the table: no more than eight options, each with a usual value that it takes, and groups
-- of these
pub record IsWhole (row : Row) : Type 0 where
  pub few : length row.options ≤ 8
  pub usual : list_all (λ option. usual_fits option.form) row.options ≡ true
  pub groups : list_all (list_all (λ place. nat_lt place (length row.options))) row.groups ≡ true
