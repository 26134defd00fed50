-- Packets whose outputs are worked by hand.
use Rattle.std.specs.Prelude.{ℕ, ◌≡◌, Bool, false, true, [], ◌∷◌}
use Rattle.la_base.specs.declared.wires.PacketKind.TheVariants.{I2cStart, I2cStop, I2cAddress}
use Rattle.la_base.specs.declared.wires.PacketKind.TheVariants.{I2cAck}
use Rattle.decoder_core.specs.Outputs.{span_note}
use Rattle.i2c_phases.specs.Bytes.{byte_note}
use Rattle.i2c_phases.specs.Examples.{packet, byte}
use Rattle.dev_lm75.specs.declared.chip.Chip.{Chip}
use Rattle.dev_lm75.specs.Thermometer.{lm75_outs}

abbrev pub chip : ℕ → Bool → Chip
chip addr resets = record { addr = addr; resets = resets }

-- pointer 0, then E7 00 is read: -25.0, 462 of 512 half degrees
abbrev pub ReadTemperature : Type 0
ReadTemperature =
    lm75_outs (chip 0 false)
    (packet 0 I2cStart 0 0 ∷ packet 1 I2cAddress 72 0 ∷ packet 2 I2cAck 0 0 ∷ byte 3 0
    ∷ packet 4 I2cAck 0 0 ∷ packet 5 I2cStart 1 0
    ∷ packet 6 I2cAddress 72 1 ∷ packet 7 I2cAck 0 0 ∷ byte 8 231 ∷ packet 9 I2cAck 0 0 ∷ byte 10 0
    ∷ packet 11 I2cAck 1 0 ∷ packet 12 I2cStop 0 0 ∷ [])
    ≡ byte_note 0 (byte 3 0) 0 0 ∷ span_note 3 80 105 462 0 ∷ []

-- pointer 1 and a byte are written to the part at address 3; a general call resets it; then a pair
-- and a rest of one are read
abbrev pub WriteConfiguration : Type 0
WriteConfiguration =
    lm75_outs (chip 3 true)
    (packet 0 I2cStart 0 0 ∷ packet 1 I2cAddress 75 0 ∷ packet 2 I2cAck 0 0 ∷ byte 3 5 ∷ byte 4 64
    ∷ packet 5 I2cStop 0 0
    ∷ packet 6 I2cStart 0 0 ∷ packet 7 I2cAddress 0 0 ∷ packet 8 I2cAck 0 0 ∷ byte 9 6
    ∷ packet 10 I2cStop 0 0
    ∷ packet 11 I2cStart 0 0 ∷ packet 12 I2cAddress 75 1 ∷ packet 13 I2cAck 0 0 ∷ byte 14 25
    ∷ byte 15 128 ∷ byte 16 25 ∷ [])
    ≡ byte_note 0 (byte 3 5) 1 0 ∷ byte_note 1 (byte 4 64) 64 0 ∷ span_note 3 140 155 51 0 ∷ []

-- the same part, where it takes no resets: the bytes are read from the configuration
abbrev pub KeptPointer : Type 0
KeptPointer =
    lm75_outs (chip 3 false)
    (packet 0 I2cStart 0 0 ∷ packet 1 I2cAddress 75 0 ∷ packet 2 I2cAck 0 0 ∷ byte 3 5
    ∷ packet 5 I2cStop 0 0
    ∷ packet 6 I2cStart 0 0 ∷ packet 7 I2cAddress 0 0 ∷ packet 8 I2cAck 0 0 ∷ byte 9 6
    ∷ packet 10 I2cStop 0 0
    ∷ packet 11 I2cStart 0 0 ∷ packet 12 I2cAddress 75 1 ∷ packet 13 I2cAck 0 0 ∷ byte 14 25
    ∷ byte 15 128 ∷ [])
    ≡ byte_note 0 (byte 3 5) 1 0 ∷ byte_note 2 (byte 14 25) 25 0 ∷ byte_note 2 (byte 15 128) 128 0
    ∷ []

-- 75 and minus half a degree are written to THYST, and one byte more; 80 is read from TOS
abbrev pub Thresholds : Type 0
Thresholds =
    lm75_outs (chip 0 false)
    (packet 0 I2cStart 0 0 ∷ packet 1 I2cAddress 72 0 ∷ packet 2 I2cAck 0 0 ∷ byte 3 2 ∷ byte 4 75
    ∷ byte 5 0 ∷ byte 6 255 ∷ byte 7 128 ∷ byte 8 1 ∷ packet 9 I2cStop 0 0
    ∷ packet 10 I2cStart 0 0 ∷ packet 11 I2cAddress 72 0 ∷ packet 12 I2cAck 0 0 ∷ byte 13 3
    ∷ packet 14 I2cStart 1 0 ∷ packet 15 I2cAddress 72 1 ∷ packet 16 I2cAck 0 0 ∷ byte 17 80
    ∷ byte 18 127 ∷ [])
    ≡ byte_note 0 (byte 3 2) 2 0 ∷ span_note 4 40 55 150 0 ∷ span_note 4 60 75 511 0
    ∷ byte_note 0 (byte 13 3) 3 0 ∷ span_note 7 170 185 160 0 ∷ []

-- nothing is told of another part, of one that doesn't acknowledge, and of what is written to the
-- temperature
abbrev pub NothingOfOthers : Type 0
NothingOfOthers =
    lm75_outs (chip 0 true)
    (packet 0 I2cStart 0 0 ∷ packet 1 I2cAddress 73 0 ∷ packet 2 I2cAck 0 0 ∷ byte 3 1 ∷ byte 4 2
    ∷ packet 5 I2cStart 1 0 ∷ packet 6 I2cAddress 72 1 ∷ packet 7 I2cAck 1 0 ∷ byte 8 1 ∷ byte 9 2
    ∷ packet 10 I2cStart 1 0 ∷ packet 11 I2cAddress 72 0 ∷ packet 12 I2cAck 0 0 ∷ byte 13 4
    ∷ byte 14 1 ∷ byte 15 2 ∷ packet 16 I2cStop 0 0 ∷ byte 17 3 ∷ [])
    ≡ byte_note 0 (byte 13 4) 0 0 ∷ []
