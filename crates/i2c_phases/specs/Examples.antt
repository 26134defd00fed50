-- Parts of examples that are worked by hand: packet j goes from 10 j to 10 j + 5.
use Rattle.std.specs.Prelude.{ℕ, ◌+◌, ◌*◌, List, [], ◌∷◌}
use Rattle.std.proofs.Math.Nat.{le-add_right}
use Rattle.la_base.specs.declared.wires.Packet.{Packet}
use Rattle.la_base.specs.declared.wires.Out.{Out}
use Rattle.la_base.specs.declared.wires.PacketKind.{PacketKind}
use Rattle.la_base.specs.declared.wires.PacketKind.TheVariants.{I2cData}
use Rattle.i2c_phases.specs.Bytes.{byte_note, byte_piece}

abbrev pub packet : ℕ → PacketKind → ℕ → ℕ → Packet
packet j kind a b =
    record {
      kind = kind;
      start = 10 * j;
      end = 10 * j + 5;
      a = a;
      b = b;
      in_order = le-add_right (10 * j) 5;
    }

-- a packet of data
abbrev pub byte : ℕ → ℕ → Packet
byte j value = packet j I2cData value 0

-- the note of a byte, of this class and values, and its piece
abbrev pub gives : ℕ → ℕ → Packet → ℕ → ℕ → List Out
gives class piece p a b = byte_note class p a b ∷ byte_piece piece p ∷ []
