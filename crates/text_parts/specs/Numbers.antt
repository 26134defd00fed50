-- Decimal numbers in a range.
use Rattle.std.specs.Prelude.{ℕ, Bool, ◌==◌, ◌&&◌, nat_le, nat_lt, not, List, length}
use Rattle.std.specs.Prelude.{Result, Ok, Err, if◌then◌else◌}
use Rattle.std.specs.Str.{all_ascii_digits}
use Rattle.la_base.specs.Naming.{number_after}
use Rattle.text_parts.specs.declared.numbers.NumberWhy.{NumberWhy}
use Rattle.text_parts.specs.declared.numbers.NumberWhy.TheVariants.{Value, Range}

-- decimal digits alone, at least one
abbrev pub is_number : List ℕ → Bool
is_number text = not (length text == 0) && all_ascii_digits text

-- the number that a text writes: Value where it isn't digits alone, Range where it has more than 19
-- or is outside
abbrev pub number_in : ℕ → ℕ → List ℕ → Result ℕ NumberWhy
number_in least most text = if not (is_number text) then Err Value
    else if nat_lt 19 (length text) then Err Range
    else if nat_le least (number_after 0 text) && nat_le (number_after 0 text) most
    then Ok (number_after 0 text)
    else Err Range
