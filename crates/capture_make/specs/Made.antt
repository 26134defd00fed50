-- Made captures: transactions on an I2C bus beside bytes on a serial line, drawn from a seed.
use Rattle.std.specs.Prelude.{ℕ, zero, suc, ◌+◌, ◌*◌, ◌/◌, ◌%◌, ◌^◌, Bool, true, false, List, []}
use Rattle.std.specs.Prelude.{◌∷◌, ◌++◌}
use Rattle.std.specs.List.{flat_map}
use Rattle.la_base.specs.Samples.{is_high}
use Rattle.list_cuts.specs.Bits.{bit_of}
use Rattle.capture_make.specs.declared.drawing.Sent.{Sent}

-- the numbers that are drawn: the generator of the example of `rand` in ISO C (9899:1999, 7.20.2.2)
-- modulo 2^31, of which the bits 16 to 23 are taken
abbrev pub next_number : ℕ → ℕ
next_number x = (x * 1103515245 + 12345) % 2 ^ 31

unfoldable pub number_at : ℕ → ℕ → ℕ
number_at seed zero = seed
number_at seed (suc n) = next_number (number_at seed n)

abbrev pub drawn : ℕ → ℕ
drawn x = x / 65536 % 256

abbrev pub draw : ℕ → ℕ → ℕ
draw seed n = drawn (number_at seed n)

-- transaction j: two data bytes to an address, and a byte over the serial line beside it
abbrev pub sent : ℕ → ℕ → Sent
sent seed j = record {
  address = 8 + draw seed (4 * j + 1) % 112;
  first = draw seed (4 * j + 2);
  second = draw seed (4 * j + 3);
  serial = draw seed (4 * j + 4);
}

-- the bits of a byte, highest first and lowest first
abbrev pub high_bits : ℕ → List Bool
high_bits byte =
    is_high byte 7 ∷ is_high byte 6 ∷ is_high byte 5 ∷ is_high byte 4 ∷ is_high byte 3
    ∷ is_high byte 2 ∷ is_high byte 1 ∷ is_high byte 0 ∷ []

abbrev pub low_bits : ℕ → List Bool
low_bits byte =
    is_high byte 0 ∷ is_high byte 1 ∷ is_high byte 2 ∷ is_high byte 3 ∷ is_high byte 4
    ∷ is_high byte 5 ∷ is_high byte 6 ∷ is_high byte 7 ∷ []

-- the levels of a line, in stretches
abbrev pub four : Bool → List Bool
four level = level ∷ level ∷ level ∷ level ∷ []

abbrev pub ten : Bool → List Bool
ten level = level ∷ level ∷ level ∷ level ∷ level ∷ level ∷ level ∷ level ∷ level ∷ level ∷ []

-- the bits on SDA: the address with R/W 0 for a write, and two data bytes, each with an
-- acknowledge, which is low
abbrev pub bus_bits : Sent → List Bool
bus_bits s =
    high_bits (2 * s.address) ++ false ∷ high_bits s.first ++ false ∷ high_bits s.second
    ++ false ∷ []

-- SCL is low for two samples and then high for two, at each bit and once more before the STOP
abbrev pub clock_levels : Bool → List Bool
clock_levels bit = false ∷ false ∷ true ∷ true ∷ []

abbrev pub scl_levels : Sent → List Bool
scl_levels s = four true ++ flat_map clock_levels (bus_bits s) ++ clock_levels false ++ four true

-- SDA falls in the third sample, while SCL is high: a START. It rises in the fourth from the end: a
-- STOP
abbrev pub sda_levels : Sent → List Bool
sda_levels s = true ∷ true ∷ false ∷ false ∷ flat_map four (bus_bits s) ++ four false ++ four true

-- the serial line has ten samples a bit: high before and behind a start bit, which is low, and
-- eight bits of data
abbrev pub rx_levels : Sent → List Bool
rx_levels s = ten true ++ ten false ++ flat_map ten (low_bits s.serial) ++ ten true ++ ten true

-- the levels of three lines as samples: SCL is bit 0, SDA bit 1, and the serial line bit 2
abbrev pub sample_of : Bool → Bool → Bool → ℕ
sample_of scl sda rx = bit_of scl + 2 * bit_of sda + 4 * bit_of rx

abbrev pub samples_of : List Bool → List Bool → List Bool → List ℕ
samples_of [] sdas rxs = []
samples_of (scl ∷ scls) [] rxs = []
samples_of (scl ∷ scls) (sda ∷ sdas) [] = []
samples_of (scl ∷ scls) (sda ∷ sdas) (rx ∷ rxs) = sample_of scl sda rx ∷ samples_of scls sdas rxs

-- a transaction: 120 samples of a microsecond
unfoldable pub block : Sent → List ℕ
block s = samples_of (scl_levels s) (sda_levels s) (rx_levels s)

-- the transactions from number j on, so many
abbrev pub sent_from : ℕ → ℕ → ℕ → List Sent
sent_from seed j zero = []
sent_from seed j (suc count) = sent seed j ∷ sent_from seed (suc j) count

-- *made captures*: the samples of all transactions, one after another
unfoldable pub made : ℕ → ℕ → List ℕ
made seed count = flat_map block (sent_from seed 0 count)
