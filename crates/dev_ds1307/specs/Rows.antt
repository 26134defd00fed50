-- Packets whose outputs are worked by hand.
use Rattle.std.specs.Prelude.{ℕ, ◌≡◌, ◌+◌, ◌*◌, Bool, false, true, List, [], ◌∷◌, ◌++◌}
use Rattle.la_base.specs.declared.wires.Packet.{Packet}
use Rattle.la_base.specs.declared.wires.PacketKind.TheVariants.{I2cStart, I2cStop, I2cAddress}
use Rattle.la_base.specs.declared.wires.PacketKind.TheVariants.{I2cAck}
use Rattle.decoder_core.specs.Outputs.{span_note}
use Rattle.i2c_phases.specs.Bytes.{byte_note, byte_piece}
use Rattle.i2c_phases.specs.Examples.{byte, gives, packet}
use Rattle.dev_ds1307.specs.declared.chip.Chip.{Chip}
use Rattle.dev_ds1307.specs.Clock.{clock_outs}

abbrev pub chip : Bool → Chip
chip resets = record { resets = resets }

-- 56 34 72 07 31 12 99, the first lowest
abbrev pub new_year : ℕ
new_year =
    86 + 52 * 256 + 114 * 65536 + 7 * 16777216 + 49 * 4294967296 + 18 * 1099511627776 + 153 *
    281474976710656

-- register 0, then seven bytes are read: 12:34:56 PM, 99-12-31, day 7
abbrev pub ReadTime : Type 0
ReadTime =
    clock_outs (chip false)
    (packet 0 I2cStart 0 0 ∷ packet 1 I2cAddress 104 0 ∷ packet 2 I2cAck 0 0 ∷ byte 3 0
    ∷ packet 4 I2cAck 0 0 ∷ packet 5 I2cStop 0 0
    ∷ packet 6 I2cStart 0 0 ∷ packet 7 I2cAddress 104 1 ∷ packet 8 I2cAck 0 0 ∷ byte 9 86
    ∷ packet 10 I2cAck 0 0 ∷ byte 11 52 ∷ packet 12 I2cAck 0 0 ∷ byte 13 114
    ∷ packet 14 I2cAck 0 0 ∷ byte 15 7 ∷ packet 16 I2cAck 0 0 ∷ byte 17 49 ∷ packet 18 I2cAck 0 0
    ∷ byte 19 18 ∷ packet 20 I2cAck 0 0 ∷ byte 21 153 ∷ packet 22 I2cAck 1 0
    ∷ packet 23 I2cStop 0 0 ∷ [])
    ≡ byte_note 0 (byte 3 0) 0 0 ∷ gives 2 1 (byte 9 86) 86 0 ++ gives 2 1 (byte 11 52) 52 1
    ++ gives 2 1 (byte 13 114) 114 2 ++ gives 2 1 (byte 15 7) 7 3
    ++ gives 2 1 (byte 17 49) 49 4 ++ gives 2 1 (byte 19 18) 18 5
    ++ byte_note 2 (byte 21 153) 153 6 ∷ span_note 4 90 215 new_year 0 ∷ byte_piece 1 (byte 21 153)
    ∷ []

-- register 63, then a byte of it, and the same seven are written, and one more
abbrev pub SetTime : Type 0
SetTime =
    clock_outs (chip false)
    (packet 0 I2cStart 0 0 ∷ packet 1 I2cAddress 104 0 ∷ packet 2 I2cAck 0 0 ∷ byte 3 127 ∷ byte 4 1
    ∷ byte 5 86 ∷ byte 6 52 ∷ byte 7 114 ∷ byte 8 7 ∷ byte 9 49 ∷ byte 10 18 ∷ byte 11 153
    ∷ byte 12 16 ∷ [])
    ≡ byte_note 0 (byte 3 127) 63 0 ∷ gives 1 0 (byte 4 1) 1 63 ++ gives 1 0 (byte 5 86) 86 0
    ++ gives 1 0 (byte 6 52) 52 1 ++ gives 1 0 (byte 7 114) 114 2
    ++ gives 1 0 (byte 8 7) 7 3 ++ gives 1 0 (byte 9 49) 49 4 ++ gives 1 0 (byte 10 18) 18 5
    ++ byte_note 1 (byte 11 153) 153 6 ∷ span_note 3 50 115 new_year 0 ∷ byte_piece 0 (byte 11 153)
    ∷ gives 1 0 (byte 12 16) 16 7

-- register 63, then two bytes are written: to 63 and to 0; one is read, from 1
abbrev pub RolledOver : Type 0
RolledOver =
    clock_outs (chip false)
    (packet 0 I2cStart 0 0 ∷ packet 1 I2cAddress 104 0 ∷ packet 2 I2cAck 0 0 ∷ byte 3 63 ∷ byte 4 1
    ∷ byte 5 2 ∷ packet 6 I2cStart 1 0 ∷ packet 7 I2cAddress 104 1 ∷ packet 8 I2cAck 0 0 ∷ byte 9 5
    ∷ [])
    ≡ byte_note 0 (byte 3 63) 63 0 ∷ gives 1 0 (byte 4 1) 1 63 ++ gives 1 0 (byte 5 2) 2 0
    ++ gives 2 1 (byte 9 5) 5 1

-- register 0 is written in one phase, and 1 to 6 are read in another: no time
abbrev pub TimeFromTheMiddle : Type 0
TimeFromTheMiddle =
    clock_outs (chip false)
    (packet 0 I2cStart 0 0 ∷ packet 1 I2cAddress 104 0 ∷ packet 2 I2cAck 0 0 ∷ byte 3 0 ∷ byte 4 1
    ∷ packet 5 I2cStart 1 0 ∷ packet 6 I2cAddress 104 1 ∷ packet 7 I2cAck 0 0
    ∷ byte 8 2 ∷ byte 9 3 ∷ byte 10 4 ∷ byte 11 5 ∷ byte 12 6 ∷ byte 13 7 ∷ byte 14 8 ∷ [])
    ≡ byte_note 0 (byte 3 0) 0 0 ∷ gives 1 0 (byte 4 1) 1 0 ++ gives 2 1 (byte 8 2) 2 1
    ++ gives 2 1 (byte 9 3) 3 2 ++ gives 2 1 (byte 10 4) 4 3
    ++ gives 2 1 (byte 11 5) 5 4 ++ gives 2 1 (byte 12 6) 6 5 ++ gives 2 1 (byte 13 7) 7 6
    ++ gives 2 1 (byte 14 8) 8 7

-- register 8, a general call with 06, one byte is read
abbrev pub called : List Packet
called = packet 0 I2cStart 0 0 ∷ packet 1 I2cAddress 104 0 ∷ packet 2 I2cAck 0 0 ∷ byte 3 8
    ∷ packet 4 I2cStop 0 0 ∷ packet 5 I2cStart 0 0 ∷ packet 6 I2cAddress 0 0 ∷ packet 7 I2cAck 0 0
    ∷ byte 8 6
    ∷ packet 9 I2cStart 0 0 ∷ packet 10 I2cAddress 104 1 ∷ packet 11 I2cAck 0 0 ∷ byte 12 65 ∷ []

abbrev pub ResetRegister : Type 0
ResetRegister =
    clock_outs (chip true) called ≡ byte_note 0 (byte 3 8) 8 0 ∷ gives 2 1 (byte 12 65) 65 0

abbrev pub KeptRegister : Type 0
KeptRegister =
    clock_outs (chip false) called ≡ byte_note 0 (byte 3 8) 8 0 ∷ gives 2 1 (byte 12 65) 65 8

-- nothing is told of another part, of one that doesn't acknowledge, and of data outside a phase
abbrev pub NothingOfOthers : Type 0
NothingOfOthers =
    clock_outs (chip true)
    (packet 0 I2cStart 0 0 ∷ packet 1 I2cAddress 80 0 ∷ packet 2 I2cAck 0 0 ∷ byte 3 1 ∷ byte 4 2
    ∷ packet 5 I2cStart 1 0 ∷ packet 6 I2cAddress 104 1 ∷ packet 7 I2cAck 1 0 ∷ byte 8 1
    ∷ packet 9 I2cStop 0 0 ∷ byte 10 2 ∷ []) ≡ []
