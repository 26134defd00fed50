-- Values of options: the one at a place, the number or the channel that it means, and whether all
-- are in range.
use Rattle.std.specs.Prelude.{ℕ, Bool, true, not, ◌&&◌, nat_lt, nat_le, List, length, Option, Some}
use Rattle.std.specs.Prelude.{None, is_some, option_and_then, unwrap_or, slice_get, zip}
use Rattle.std.specs.List.{list_all, list_any}
use Rattle.kind_table.specs.declared.kinds.Kind.{Kind}
use Rattle.kind_table.specs.Kinds.{Form, OptionRow, Row, Pin, Number, Choice, kind_row}

-- what is given at a place, if anything
abbrev pub given_at : List (Option ℕ) → ℕ → Option ℕ
given_at values place = option_and_then (λ value. value) (slice_get values place)

-- the bit of a channel that need not be given, if it is
abbrev pub maybe_channel_at : List (Option ℕ) → ℕ → Option ℕ
maybe_channel_at values place = given_at values place

-- the bit of a channel, 0 where none is given
abbrev pub channel_at : List (Option ℕ) → ℕ → ℕ
channel_at values place = unwrap_or (given_at values place) 0

-- the number that an option has: the one that is given, else its usual one; the usual one of a
-- choice is its first word
abbrev pub number_of : Form → Option ℕ → ℕ
number_of form (Some number) = number
number_of (Pin required) None = 0
number_of (Number least most usual) None = usual
number_of (Choice words) None = 0

-- the number that the option of a row has, 0 where there is no such row
abbrev pub number_by : Option OptionRow → Option ℕ → ℕ
number_by None value = 0
number_by (Some row) value = number_of row.form value

-- the number at a place, by the row there
abbrev pub number_at : List OptionRow → List (Option ℕ) → ℕ → ℕ
number_at rows values place = number_by (slice_get rows place) (given_at values place)

-- whether an option takes a value, or none, where a sample has so many bits
abbrev pub takes : ℕ → Form → Option ℕ → Bool
takes bits (Pin required) None = not required
takes bits (Pin required) (Some bit) = nat_lt bit bits
takes bits (Number least most usual) None = true
takes bits (Number least most usual) (Some number) = nat_le least number && nat_le number most
takes bits (Choice words) None = true
takes bits (Choice words) (Some place) = nat_lt place (length words)

-- of each group of rows at least one is given
abbrev pub has_groups : (ℕ → Bool) → List (List ℕ) → Bool
has_groups is_given groups = list_all (λ group. list_any is_given group) groups

-- each option of a row of the table takes its value, and of each group one is given
abbrev pub row_in_range : ℕ → Row → List (Option ℕ) → Bool
row_in_range bits row values =
    list_all (λ p. takes bits p.0.form p.1) (zip row.options values)
    && has_groups (λ place. is_some (given_at values place)) row.groups

-- the values of a kind are in range
abbrev pub in_range : ℕ → Kind → List (Option ℕ) → Bool
in_range bits kind values = row_in_range bits (kind_row kind) values
