-- The times of a CSV file, in picoseconds. They are counted from 10^10 seconds before 0, so that
-- none is negative.
use Rattle.std.specs.Prelude.{ℕ, ℤ, pos, ◌-ℤ◌, ◌+◌, ◌-◌, ◌*◌, ◌/◌, ◌^◌, ◌==◌, ◌&&◌, nat_le}
use Rattle.std.specs.Prelude.{if◌then◌else◌, List, [], ◌∷◌, ◌++◌, take, drop, replicate, Option}
use Rattle.std.specs.Prelude.{Some, None}
use Rattle.std.specs.List.{prefix_len}
use Rattle.std.specs.Char.{is_ascii_digit}
use Rattle.la_base.specs.Naming.{number_after}
use Rattle.text_parts.specs.Numbers.{is_number}

-- the least time, and 0
abbrev pub zero_time : ℕ
zero_time = 10 ^ 22

-- a time, as it counts from 0
abbrev pub from_zero : ℕ → ℤ
from_zero time = pos time -ℤ pos zero_time

-- twelve decimals at least
abbrev pub twelve : List ℕ → List ℕ
twelve decimals = decimals ++ replicate 12 48

-- the picoseconds of the decimals: the first twelve count
abbrev pub picos_of : List ℕ → ℕ
picos_of decimals = number_after 0 (take 12 (twelve decimals))

-- what stands behind the whole seconds: nothing, or a point and decimals
abbrev pub part_of : List ℕ → Option ℕ
part_of [] = Some 0
part_of (byte ∷ decimals) =
    if (byte == 46) && is_number decimals then Some (picos_of decimals) else None

abbrev pub with_seconds : ℕ → Option ℕ → Option ℕ
with_seconds seconds None = None
with_seconds seconds (Some picos) = Some (seconds * 10 ^ 12 + picos)

-- 1 to 10 digits, and perhaps a point and 1 or more decimals
abbrev pub amount_of : List ℕ → Option ℕ
amount_of text =
    let digits = prefix_len is_ascii_digit text in
    if nat_le 1 digits && nat_le digits 10 then with_seconds (number_after 0 (take digits text))
    (part_of (drop digits text)) else None

abbrev pub before_zero : Option ℕ → Option ℕ
before_zero None = None
before_zero (Some amount) = Some (zero_time - amount)

abbrev pub behind_zero : Option ℕ → Option ℕ
behind_zero None = None
behind_zero (Some amount) = Some (zero_time + amount)

-- the time that a field tells: a sign may stand before it
abbrev pub time_in : List ℕ → Option ℕ
time_in [] = None
time_in (byte ∷ bytes) = if byte == 45 then before_zero (amount_of bytes)
    else if byte == 43 then behind_zero (amount_of bytes)
    else behind_zero (amount_of (byte ∷ bytes))

-- the sample of a time, at so many samples in so many seconds from the first time on
abbrev pub sample_at : ℕ → ℕ → ℕ → ℕ → ℕ
sample_at num den start time = (time - start) * num / (10 ^ 12 * den)
