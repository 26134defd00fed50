-- How a channel is found by a reference.
use Rattle.std.specs.Prelude.{ℕ, Bool, ◌+◌, ◌*◌, ◌-◌, List, length, Option, Some, None, nat_le, nat_lt, ◌&&◌}
use Rattle.std.specs.Prelude.{if◌then◌else◌, nat_eq}
use Rattle.std.specs.List.{fold, position, list_all}
use Rattle.std.specs.Cmp.Lexicographic.{pointwise}
use Rattle.std.specs.Char.{is_ascii_digit}

-- two names have the same bytes
abbrev pub same_name : List ℕ → List ℕ → Bool
same_name a b = pointwise nat_eq a b

-- the number that digits write after those of n
abbrev pub number_after : ℕ → List ℕ → ℕ
number_after n digits = fold (λ n digit. 10 * n + (digit - 48)) n digits

-- 1 to 4 decimal digits
abbrev pub is_number : List ℕ → Bool
is_number text = nat_le 1 (length text) && nat_le (length text) 4 && list_all is_ascii_digit text

-- the number that 1 to 4 decimal digits say
abbrev pub number_of : List ℕ → Option ℕ
number_of text = if is_number text then Some (number_after 0 text) else None

-- the channel of that number, if there is one
abbrev pub below : ℕ → Option ℕ → Option ℕ
below count None = None
below count (Some n) = if nat_lt n count then Some n else None

-- the first, else the second
abbrev pub or_else : Option ℕ → Option ℕ → Option ℕ
or_else (Some x) other = Some x
or_else None other = other

-- the least channel of that name, else the channel of that number
abbrev pub find_channel : List (List ℕ) → List ℕ → Option ℕ
find_channel names reference =
    or_else (position (λ name. same_name name reference) names)
    (below (length names) (number_of reference))
