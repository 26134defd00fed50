-- Raw captures: units of bytes, the lowest byte first.
use Rattle.std.specs.Prelude.{ℕ, ◌+◌, ◌*◌, ◌/◌, ◌%◌, ◌^◌, ◌==◌, nat_le, if◌then◌else◌, List, []}
use Rattle.std.specs.Prelude.{◌∷◌, ◌++◌, length, map, take, codes}
use Rattle.std.specs.Int.{bit_at}
use Rattle.std.specs.Fmt.{decimal}
use Rattle.std.specs.List.{range_with_len}
use Rattle.list_cuts.specs.Groups.{groups}
use Rattle.la_base.specs.declared.samples.Rate.{Rate}
use Rattle.la_io.specs.declared.fault.CaptureFault.TheVariants.{ShortUnit, Bytes}
use Rattle.la_io.specs.Capture.{Told, AtEnd, Cut, Good, Ending, Clean, Faulty, Open, Captured}

-- how many bytes a unit has
abbrev pub unit_len : ℕ → ℕ
unit_len channels = (channels + 7) / 8

-- bytes as a number, the lowest first
abbrev pub number : List ℕ → ℕ
number [] = 0
number (byte ∷ bytes) = byte + 256 * number bytes

-- bit j is bit pins[j] of n
abbrev pub picked : List ℕ → ℕ → ℕ
picked [] n = 0
picked (pin ∷ pins) n = bit_at n pin + 2 * picked pins n

-- the sample of a unit
abbrev pub word_of : List ℕ → List ℕ → ℕ
word_of pins unit = picked pins (number unit)

-- the samples of bytes: a word for each whole unit
unfoldable pub raw_samples : ℕ → List ℕ → List ℕ → List ℕ
raw_samples unit pins bytes = map (word_of pins) (groups unit bytes)

-- the names of the channels: D0, D1 and so on
unfoldable pub raw_names : ℕ → List (List ℕ)
raw_names channels = map (λ channel. codes "D" ++ decimal channel) (range_with_len 0 channels)

-- how less than 2^60 bytes end
abbrev pub raw_rest : ℕ → ℕ → Told → Ending
raw_rest unit count AtEnd =
    if count % unit == 0 then Clean else Faulty (ShortUnit (count / unit * unit))
raw_rest unit count Cut = Open

-- how bytes end: a reader stops behind 2^60 of them, and asks for no end there
abbrev pub raw_ending : ℕ → ℕ → Told → Ending
raw_ending unit count told =
    if nat_le (2 ^ 60) count then Faulty Bytes else raw_rest unit count told

-- what the bytes of a raw capture give
unfoldable pub raw_capture : ℕ → Rate → List ℕ → List ℕ → Told → Captured
raw_capture channels rate pins bytes told = record {
  head = Good (raw_names channels) rate.num rate.den;
  settled = raw_samples (unit_len channels) pins (take (2 ^ 60) bytes);
  ending = raw_ending (unit_len channels) (length bytes) told;
}
