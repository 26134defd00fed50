-- Packets whose outputs are worked by hand: packet j goes from 10 j to 10 j + 5.
use Rattle.std.specs.Prelude.{ℕ, ◌+◌, ◌*◌, ◌≡◌, [], ◌∷◌}
use Rattle.std.proofs.Math.Nat.{le-add_right}
use Rattle.la_base.specs.declared.wires.Packet.{Packet}
use Rattle.la_base.specs.declared.wires.Out.{Out}
use Rattle.la_base.specs.declared.wires.PacketKind.{PacketKind}
use Rattle.la_base.specs.declared.wires.PacketKind.TheVariants.{NetReset, NetCommand, NetRom}
use Rattle.la_base.specs.declared.wires.PacketKind.TheVariants.{NetByte}
use Rattle.decoder_core.specs.Outputs.{span_note, span_piece}
use Rattle.dev_ds18b20.specs.Probe.{probe_outs}

abbrev pub packet : ℕ → PacketKind → ℕ → Packet
packet j kind a =
    record {
      kind = kind;
      start = 10 * j;
      end = 10 * j + 5;
      a = a;
      b = 0;
      in_order = le-add_right (10 * j) 5;
    }

-- a note over bytes, by the packets of the first and the last, and a piece
abbrev pub note : ℕ → ℕ → ℕ → ℕ → ℕ → Out
note class first last a b = span_note class (10 * first) (10 * last + 5) a b

abbrev pub piece : ℕ → ℕ → Out
piece j byte = span_piece 0 (10 * j) (10 * j + 5) byte

-- -10.125 degrees, limits 75 and 70, twelve bits, and the right CRC
abbrev pub FineReading : Type 0
FineReading =
    probe_outs
    (packet 0 NetReset 0 ∷ packet 1 NetCommand 204 ∷ packet 2 NetByte 190 ∷ packet 3 NetByte 94
    ∷ packet 4 NetByte 255 ∷ packet 5 NetByte 75 ∷ packet 6 NetByte 70
    ∷ packet 7 NetByte 127 ∷ packet 8 NetByte 255 ∷ packet 9 NetByte 2 ∷ packet 10 NetByte 16
    ∷ packet 11 NetByte 182 ∷ packet 12 NetByte 1 ∷ [])
    ≡ note 0 2 2 190 0 ∷ note 1 3 4 65374 0 ∷ note 2 5 6 75 70 ∷ note 3 7 7 12 0 ∷ note 4 11 11 0 0
    ∷ piece 3 94 ∷ piece 4 255 ∷ piece 5 75 ∷ piece 6 70 ∷ piece 7 127 ∷ piece 8 255 ∷ piece 9 2
    ∷ piece 10 16 ∷ piece 11 182 ∷ []

-- with 1F in place of 7F: nine bits, so -10.5 degrees, and the CRC is wrong
abbrev pub CoarseReading : Type 0
CoarseReading =
    probe_outs
    (packet 0 NetReset 0 ∷ packet 1 NetCommand 204 ∷ packet 2 NetByte 190 ∷ packet 3 NetByte 94
    ∷ packet 4 NetByte 255 ∷ packet 5 NetByte 75 ∷ packet 6 NetByte 70
    ∷ packet 7 NetByte 31 ∷ packet 8 NetByte 255 ∷ packet 9 NetByte 2 ∷ packet 10 NetByte 16
    ∷ packet 11 NetByte 182 ∷ [])
    ≡ note 0 2 2 190 0 ∷ note 1 3 4 65368 0 ∷ note 2 5 6 75 70 ∷ note 3 7 7 9 0 ∷ note 4 11 11 1 0
    ∷ piece 3 94 ∷ piece 4 255 ∷ piece 5 75 ∷ piece 6 70 ∷ piece 7 31 ∷ piece 8 255 ∷ piece 9 2
    ∷ piece 10 16 ∷ piece 11 182 ∷ []

-- a ROM of its family makes a transaction its own; three bytes are written, and further ones say
-- nothing
abbrev pub Written : Type 0
Written =
    probe_outs
    (packet 0 NetReset 0 ∷ packet 1 NetCommand 85 ∷ packet 2 NetRom 11673330234173168680
    ∷ packet 3 NetByte 78 ∷ packet 4 NetByte 30 ∷ packet 5 NetByte 246 ∷ packet 6 NetByte 63
    ∷ packet 7 NetByte 1 ∷ packet 8 NetReset 0 ∷ packet 9 NetByte 68 ∷ [])
    ≡ note 0 3 3 78 0 ∷ note 5 4 5 30 246 ∷ note 6 6 6 10 0 ∷ []

-- a ROM of another family doesn't, nor does a command without one
abbrev pub ForeignRom : Type 0
ForeignRom =
    probe_outs
    (packet 0 NetCommand 204 ∷ packet 1 NetByte 68 ∷ packet 2 NetReset 0 ∷ packet 3 NetCommand 85
    ∷ packet 4 NetRom 10242 ∷ packet 5 NetByte 68 ∷ packet 6 NetReset 0 ∷ packet 7 NetCommand 460
    ∷ packet 8 NetByte 68 ∷ []) ≡ []

-- eight bytes of a scratchpad give nothing
abbrev pub TooFew : Type 0
TooFew = probe_outs
    (packet 0 NetReset 0 ∷ packet 1 NetCommand 204 ∷ packet 2 NetByte 190 ∷ packet 3 NetByte 94
    ∷ packet 4 NetByte 255 ∷ packet 5 NetByte 75 ∷ packet 6 NetByte 70
    ∷ packet 7 NetByte 31 ∷ packet 8 NetByte 255 ∷ packet 9 NetByte 2 ∷ packet 10 NetByte 16
    ∷ packet 11 NetReset 0 ∷ packet 12 NetByte 182 ∷ [])
    ≡ note 0 2 2 190 0 ∷ []
