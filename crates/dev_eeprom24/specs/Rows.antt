-- Packets whose outputs are worked by hand.
use Rattle.std.specs.Prelude.{◌≡◌, Bool, true, false, List, [], ◌∷◌, ◌++◌}
use Rattle.std.proofs.Math.Nat.{le-add_right}
use Rattle.la_base.specs.declared.wires.Packet.{Packet}
use Rattle.la_base.specs.declared.wires.PacketKind.TheVariants.{I2cStart, I2cStop, I2cAddress}
use Rattle.la_base.specs.declared.wires.PacketKind.TheVariants.{I2cData, I2cAck}
use Rattle.dev_eeprom24.specs.declared.chip.Chip.{Chip}
use Rattle.decoder_core.specs.Outputs.{span_note}
use Rattle.i2c_phases.specs.Bytes.{byte_note}
use Rattle.i2c_phases.specs.Examples.{packet, gives}
use Rattle.dev_eeprom24.specs.Eeprom.{eeprom_outs}

abbrev pub small : Bool → Chip
small resets =
    record {
      addr = 0;
      size = 256;
      page = 8;
      resets = resets;
      some_size = le-add_right 1 255;
      some_page = le-add_right 1 7;
    }

-- word address FF, then three bytes are read: FF, 00, 01
abbrev pub RandomRead : Type 0
RandomRead =
    eeprom_outs (small false)
    (packet 0 I2cStart 0 0 ∷ packet 1 I2cAddress 80 0 ∷ packet 2 I2cAck 0 0 ∷ packet 3 I2cData 255 0
    ∷ packet 4 I2cAck 0 0
    ∷ packet 5 I2cStart 1 0 ∷ packet 6 I2cAddress 80 1 ∷ packet 7 I2cAck 0 0 ∷ packet 8 I2cData 65 1
    ∷ packet 9 I2cAck 0 0 ∷ packet 10 I2cData 66 1
    ∷ packet 11 I2cAck 0 0 ∷ packet 12 I2cData 67 1 ∷ packet 13 I2cAck 1 0 ∷ packet 14 I2cStop 0 0
    ∷ [])
    ≡ byte_note 0 (packet 3 I2cData 255 0) 255 0 ∷ gives 2 1 (packet 8 I2cData 65 1) 65 255
    ++ gives 2 1 (packet 10 I2cData 66 1) 66 0 ++ gives 2 1 (packet 12 I2cData 67 1) 67 1

-- word address 06, then 01 02 03 are written: to 06, 07, 00
abbrev pub RolledOver : Type 0
RolledOver =
    eeprom_outs (small false)
    (packet 0 I2cStart 0 0 ∷ packet 1 I2cAddress 80 0 ∷ packet 2 I2cAck 0 0 ∷ packet 3 I2cData 6 0
    ∷ packet 4 I2cData 1 0 ∷ packet 5 I2cData 2 0 ∷ packet 6 I2cData 3 0 ∷ [])
    ≡ byte_note 0 (packet 3 I2cData 6 0) 6 0 ∷ gives 1 0 (packet 4 I2cData 1 0) 1 6
    ++ gives 1 0 (packet 5 I2cData 2 0) 2 7 ++ gives 1 0 (packet 6 I2cData 3 0) 3 0

-- word address 10, a general call with 06, one byte is read
abbrev pub called : List Packet
called = packet 0 I2cStart 0 0 ∷ packet 1 I2cAddress 80 0 ∷ packet 2 I2cAck 0 0
    ∷ packet 3 I2cData 16 0 ∷ packet 4 I2cAck 0 0 ∷ packet 5 I2cStop 0 0
    ∷ packet 6 I2cStart 0 0 ∷ packet 7 I2cAddress 0 0 ∷ packet 8 I2cAck 0 0 ∷ packet 9 I2cData 6 0
    ∷ packet 10 I2cAck 0 0 ∷ packet 11 I2cStop 0 0
    ∷ packet 12 I2cStart 0 0 ∷ packet 13 I2cAddress 80 1 ∷ packet 14 I2cAck 0 0
    ∷ packet 15 I2cData 65 1 ∷ packet 16 I2cAck 1 0 ∷ packet 17 I2cStop 0 0 ∷ []

abbrev pub ResetPointer : Type 0
ResetPointer =
    eeprom_outs (small true) called
    ≡ byte_note 0 (packet 3 I2cData 16 0) 16 0 ∷ gives 2 1 (packet 15 I2cData 65 1) 65 0

abbrev pub KeptPointer : Type 0
KeptPointer =
    eeprom_outs (small false) called
    ≡ byte_note 0 (packet 3 I2cData 16 0) 16 0 ∷ gives 2 1 (packet 15 I2cData 65 1) 65 16

-- a larger EEPROM has a word address of two bytes, and longer pages: 121F, and the front of the
-- page
abbrev pub large : Chip
large = record {
  addr = 3;
  size = 8192;
  page = 32;
  resets = false;
  some_size = le-add_right 1 8191;
  some_page = le-add_right 1 31;
}

abbrev pub TwoBytes : Type 0
TwoBytes =
    eeprom_outs large
    (packet 0 I2cStart 0 0 ∷ packet 1 I2cAddress 83 0 ∷ packet 2 I2cAck 0 0 ∷ packet 3 I2cData 18 0
    ∷ packet 4 I2cData 31 0 ∷ packet 5 I2cData 1 0 ∷ packet 6 I2cData 2 0 ∷ packet 7 I2cStop 0 0
    ∷ [])
    ≡ span_note 0 30 45 4639 0 ∷ gives 1 0 (packet 5 I2cData 1 0) 1 4639
    ++ gives 1 0 (packet 6 I2cData 2 0) 2 4608

-- nothing is told of another device, of one that doesn't acknowledge, and of data before an
-- acknowledge
abbrev pub NothingOfOthers : Type 0
NothingOfOthers =
    eeprom_outs (small true)
    (packet 0 I2cStart 0 0 ∷ packet 1 I2cAddress 81 0 ∷ packet 2 I2cAck 0 0 ∷ packet 3 I2cData 1 0
    ∷ packet 4 I2cData 2 0
    ∷ packet 5 I2cStart 1 0 ∷ packet 6 I2cAddress 80 0 ∷ packet 7 I2cAck 1 0 ∷ packet 8 I2cData 1 0
    ∷ packet 9 I2cAck 0 0 ∷ packet 10 I2cData 2 0
    ∷ packet 11 I2cStart 1 0 ∷ packet 12 I2cAddress 80 2 ∷ packet 13 I2cAck 0 0
    ∷ packet 14 I2cData 1 0 ∷ packet 15 I2cStop 0 0 ∷ packet 16 I2cData 1 0 ∷ []) ≡ []

-- a general call resets by a first byte of 6 alone
abbrev pub asked_other : List Packet
asked_other =
    packet 0 I2cStart 0 0 ∷ packet 1 I2cAddress 80 0 ∷ packet 2 I2cAck 0 0 ∷ packet 3 I2cData 16 0
    ∷ packet 4 I2cStop 0 0
    ∷ packet 5 I2cStart 0 0 ∷ packet 6 I2cAddress 0 0 ∷ packet 7 I2cAck 0 0 ∷ packet 8 I2cData 4 0
    ∷ packet 9 I2cData 6 0 ∷ packet 10 I2cStop 0 0
    ∷ packet 11 I2cStart 0 0 ∷ packet 12 I2cAddress 80 1 ∷ packet 13 I2cAck 0 0
    ∷ packet 14 I2cData 65 1 ∷ []

abbrev pub OtherCommand : Type 0
OtherCommand =
    eeprom_outs (small true) asked_other
    ≡ byte_note 0 (packet 3 I2cData 16 0) 16 0 ∷ gives 2 1 (packet 14 I2cData 65 1) 65 16
