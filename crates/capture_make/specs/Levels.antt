-- The samples of a transaction, one by one.
use Rattle.std.specs.Prelude.{ℕ, ◌+◌, ◌*◌, ◌-◌, ◌/◌, ◌%◌, nat_lt, Bool, not, ◌&&◌, ◌||◌}
use Rattle.std.specs.Prelude.{if◌then◌else◌, ◌==◌}
use Rattle.la_base.specs.Samples.{is_high}
use Rattle.list_cuts.specs.Bits.{bit_of}
use Rattle.capture_make.specs.declared.drawing.Sent.{Sent}

-- bit i of the 27 on SDA: three bytes, each with an acknowledge behind it
abbrev pub byte_at : Sent → ℕ → ℕ
byte_at s i = if i == 0 then 2 * s.address else if i == 1 then s.first else s.second

abbrev pub bus_bit : Sent → ℕ → Bool
bus_bit s i = nat_lt (i % 9) 8 && is_high (byte_at s (i / 9)) (7 - i % 9)

abbrev pub scl_at : ℕ → Bool
scl_at k = nat_lt k 4 || not (nat_lt k 114) || not (nat_lt (k % 4) 2)

abbrev pub sda_at : Sent → ℕ → Bool
sda_at s k =
    if nat_lt k 4 then nat_lt k 2 else if nat_lt k 112 then bus_bit s ((k - 4) / 4)
    else not (nat_lt k 116)

abbrev pub rx_at : Sent → ℕ → Bool
rx_at s k =
    if nat_lt k 20 then nat_lt k 10 else not (nat_lt k 100) || is_high s.serial ((k - 20) / 10)

abbrev pub sample_at : Sent → ℕ → ℕ
sample_at s k = bit_of (scl_at k) + 2 * bit_of (sda_at s k) + 4 * bit_of (rx_at s k)
