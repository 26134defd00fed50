-- Samples whose outputs are worked by hand: line 0 is SCL, line 1 is SDA.
use Rattle.std.specs.Prelude.{ℕ, ◌+◌, ◌*◌, ◌≡◌, List, [], ◌∷◌, ◌++◌}
use Rattle.std.specs.List.{flat_map}
use Rattle.std.proofs.Common.{refl}
use Rattle.list_cuts.specs.Groups.{groups, after_groups}
use Rattle.la_base.specs.declared.wires.Out.{Out}
use Rattle.la_base.specs.declared.wires.PacketKind.TheVariants.{I2cStart, I2cStop, I2cAddress}
use Rattle.la_base.specs.declared.wires.PacketKind.TheVariants.{I2cData, I2cAck}
use Rattle.decoder_core.specs.Outputs.{note_at, packet_at, span_note, span_piece, span_packet}
use Rattle.dec_i2c.specs.Bus.{bytes_of, clocks_outs, i2c_outs}

-- START, address 50h, write, ACK
abbrev front : List Out
front =
    note_at 0 1 0 ∷ packet_at I2cStart 1 0 ∷ span_note 3 3 17 80 0
    ∷ span_packet I2cAddress 3 17 80 0 ∷ note_at 7 19 0
    ∷ packet_at I2cAck 19 0 ∷ []

-- address 50h is written to and acknowledged; the clock before the STOP is no bit of a byte
pub an_address_and_a_stop :
    i2c_outs 0 1
    (3 ∷ 1 ∷ 2 ∷ 3 ∷ 0 ∷ 1 ∷ 2 ∷ 3 ∷ 0 ∷ 1 ∷ 0 ∷ 1 ∷ 0 ∷ 1 ∷ 0 ∷ 1 ∷ 0 ∷ 1 ∷ 0 ∷ 1 ∷ 0 ∷ 1 ∷ 3
    ∷ [])
    ≡ front ++ note_at 2 22 0 ∷ packet_at I2cStop 22 0 ∷ []
unfolding groups after_groups bytes_of clocks_outs i2c_outs
an_address_and_a_stop = refl

-- a repeated START, and seven bits that are no byte
pub a_repeated_start_and_seven_bits :
    i2c_outs 0 1
    (3 ∷ 1 ∷ 2 ∷ 3 ∷ 0 ∷ 1 ∷ 2 ∷ 3 ∷ 0 ∷ 1 ∷ 0 ∷ 1 ∷ 0 ∷ 1 ∷ 0 ∷ 1 ∷ 0 ∷ 1 ∷ 0 ∷ 1 ∷ 2 ∷ 3 ∷ 1
    ∷ 0 ∷ 1 ∷ 0 ∷ 1 ∷ 0 ∷ 1 ∷ 0 ∷ 1 ∷ 0 ∷ 1 ∷ 0 ∷ 1 ∷ 0 ∷ 1 ∷ 3 ∷ [])
    ≡ front ++ note_at 1 22 0 ∷ packet_at I2cStart 22 1 ∷ note_at 2 37 0 ∷ packet_at I2cStop 37 0
    ∷ []
unfolding groups after_groups bytes_of clocks_outs i2c_outs
a_repeated_start_and_seven_bits = refl

-- a sample with SCL low and one with SCL high for each bit; a START; a START behind bits; a STOP
-- behind bits
abbrev clocked : List ℕ → List ℕ
clocked bits = flat_map (λ bit. 2 * bit ∷ (2 * bit + 1) ∷ []) bits

abbrev start : List ℕ
start = 3 ∷ 1 ∷ []

abbrev again : List ℕ
again = 2 ∷ 3 ∷ 1 ∷ []

abbrev stop : List ℕ
stop = 0 ∷ 1 ∷ 3 ∷ []

-- what is wanted, by places and values; `again` and `nack` are 0 or 1, `read` is 0 where a byte is
-- written
abbrev started : ℕ → ℕ → List Out
started again at = note_at again at 0 ∷ packet_at I2cStart at again ∷ []

abbrev stopped : ℕ → List Out
stopped at = note_at 2 at 0 ∷ packet_at I2cStop at 0 ∷ []

abbrev acked : ℕ → ℕ → List Out
acked nack at = note_at (7 + nack) at 0 ∷ packet_at I2cAck at nack ∷ []

abbrev address : ℕ → ℕ → ℕ → ℕ → ℕ → List Out
address class first last a b =
    span_note class first last a 0 ∷ span_packet I2cAddress first last a b ∷ []

abbrev byte : ℕ → ℕ → ℕ → ℕ → ℕ → List Out
byte class read first last a =
    span_note class first last a 0 ∷ span_piece read first last a
    ∷ span_packet I2cData first last a read ∷ []

-- ten-bit address 150h: its prefix with R/W 0 and ACK, its lower eight bits with ACK; its prefix
-- with R/W 1 and ACK
abbrev to_150 : List ℕ
to_150 = clocked (1 ∷ 1 ∷ 1 ∷ 1 ∷ 0 ∷ 0 ∷ 1 ∷ 0 ∷ 0 ∷ 0 ∷ 1 ∷ 0 ∷ 1 ∷ 0 ∷ 0 ∷ 0 ∷ 0 ∷ 0 ∷ [])

abbrev from_150 : List ℕ
from_150 = clocked (1 ∷ 1 ∷ 1 ∷ 1 ∷ 0 ∷ 0 ∷ 1 ∷ 1 ∷ 0 ∷ [])

-- a byte of ones without acknowledge
abbrev ones : List ℕ
ones = clocked (1 ∷ 1 ∷ 1 ∷ 1 ∷ 1 ∷ 1 ∷ 1 ∷ 1 ∷ 1 ∷ [])

-- what a START at place 1 and the ten-bit address behind it give
abbrev wrote : List Out
wrote = started 0 1 ++ address 10 3 17 121 0 ++ acked 0 19 ++ address 11 21 35 336 2 ++ acked 0 37

-- the address is written to
pub a_ten_bit_write : i2c_outs 0 1 (start ++ to_150 ++ ones ++ stop)
    ≡ wrote ++ byte 5 0 39 53 255 ++ acked 1 55 ++ stopped 58
unfolding groups after_groups bytes_of clocks_outs i2c_outs
a_ten_bit_write = refl

-- it is read from behind a repeated START, and again behind another
pub a_ten_bit_read : i2c_outs 0 1
    (start ++ to_150 ++ again ++ from_150 ++ ones ++ again ++ from_150)
    ≡ wrote ++ started 1 40 ++ address 12 42 56 336 3 ++ acked 0 58 ++ byte 6 1 60 74 255
    ++ acked 1 76 ++ started 1 79 ++ address 12 81 95 336 3 ++ acked 0 97
unfolding groups after_groups bytes_of clocks_outs i2c_outs
a_ten_bit_read = refl

-- a prefix with other bits reads from no ten-bit address, nor does one behind a STOP, nor one
-- behind a segment without a byte
pub a_prefix_with_other_bits : i2c_outs 0 1
    (start ++ to_150 ++ again ++ clocked (1 ∷ 1 ∷ 1 ∷ 1 ∷ 0 ∷ 1 ∷ 0 ∷ 1 ∷ []))
    ≡ wrote ++ started 1 40 ++ address 13 42 56 122 1
unfolding groups after_groups bytes_of clocks_outs i2c_outs
a_prefix_with_other_bits = refl

pub a_prefix_behind_a_stop : i2c_outs 0 1 (start ++ to_150 ++ stop ++ 1 ∷ from_150)
    ≡ wrote ++ stopped 40 ++ started 0 41 ++ address 13 43 57 121 1 ++ acked 0 59
unfolding groups after_groups bytes_of clocks_outs i2c_outs
a_prefix_behind_a_stop = refl

pub a_segment_without_a_byte : i2c_outs 0 1 (start ++ to_150 ++ again ++ again ++ from_150)
    ≡ wrote ++ started 1 40 ++ started 1 43 ++ address 13 45 59 121 1 ++ acked 0 61
unfolding groups after_groups bytes_of clocks_outs i2c_outs
a_segment_without_a_byte = refl

-- a general call, its command, and data
pub a_general_call : i2c_outs 0 1
    (start ++ clocked (0 ∷ 0 ∷ 0 ∷ 0 ∷ 0 ∷ 0 ∷ 0 ∷ 0 ∷ 0 ∷ 0 ∷ 0 ∷ 0 ∷ 0 ∷ 0 ∷ 1 ∷ 1 ∷ 0 ∷ 0 ∷ [])
    ++ ones ++ stop)
    ≡ started 0 1 ++ address 9 3 17 0 0 ++ acked 0 19 ++ byte 14 0 21 35 6 ++ acked 0 37
    ++ byte 5 0 39 53 255 ++ acked 1 55 ++ stopped 58
unfolding groups after_groups bytes_of clocks_outs i2c_outs
a_general_call = refl
