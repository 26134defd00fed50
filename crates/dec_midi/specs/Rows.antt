-- Bytes whose outputs are worked by hand.
use Rattle.std.specs.Prelude.{ℕ, ◌+◌, ◌*◌, ◌≡◌, List, [], ◌∷◌}
use Rattle.std.proofs.Math.Nat.{le-add_right}
use Rattle.la_base.specs.declared.wires.Packet.{Packet}
use Rattle.la_base.specs.declared.wires.PacketKind.{PacketKind}
use Rattle.la_base.specs.declared.wires.PacketKind.TheVariants.{UartFrame, UartBreak}
use Rattle.decoder_core.specs.Outputs.{span_note}
use Rattle.dec_midi.specs.Midi.{midi_near, midi_outs}

-- packet j goes from 10 j to 10 j + 9
abbrev packet : ℕ → PacketKind → ℕ → ℕ → Packet
packet j kind a b =
    record {
      kind = kind;
      start = 10 * j;
      end = 10 * j + 9;
      a = a;
      b = b;
      in_order = le-add_right (10 * j) 9;
    }

-- bytes one behind the other
abbrev bytes_from : ℕ → List ℕ → List Packet
bytes_from j [] = []
bytes_from j (byte ∷ bytes) = packet j UartFrame byte 0 ∷ bytes_from (j + 1) bytes

abbrev bytes : List ℕ → List Packet
bytes list = bytes_from 0 list

-- the value of a message
abbrev says : ℕ → ℕ → ℕ → ℕ
says status one two = status * 65536 + one * 256 + two

-- 90 3C 40 F8 3E 40: two notes, the second by running status, and a clock between
abbrev pub Chord : Type 0
Chord =
    midi_outs (bytes (144 ∷ 60 ∷ 64 ∷ 248 ∷ 62 ∷ 64 ∷ []))
    ≡ span_note 1 0 29 (says 144 60 64) 0 ∷ span_note 11 30 39 248 0
    ∷ span_note 1 40 59 (says 144 62 64) 0 ∷ []

-- F0 7E 7F F7 05: system exclusive, and a data byte that F7h doesn't take
abbrev pub Exclusive : Type 0
Exclusive =
    midi_outs (bytes (240 ∷ 126 ∷ 127 ∷ 247 ∷ 5 ∷ []))
    ≡ span_note 12 0 39 2 0 ∷ span_note 14 40 49 5 0 ∷ []

-- B3 07 F8 64 0A FE 40 C0 05 F8 06: real time inside of two groups by running status, and groups of
-- one
abbrev pub Running : Type 0
Running =
    midi_outs (bytes (179 ∷ 7 ∷ 248 ∷ 100 ∷ 10 ∷ 254 ∷ 64 ∷ 192 ∷ 5 ∷ 248 ∷ 6 ∷ []))
    ≡ span_note 11 20 29 248 0 ∷ span_note 3 0 39 (says 179 7 100) 0 ∷ span_note 11 50 59 254 0
    ∷ span_note 3 40 69 (says 179 10 64) 0 ∷ span_note 4 70 89 (says 192 5 0) 0
    ∷ span_note 11 90 99 248 0 ∷ span_note 4 100 109 (says 192 6 0) 0 ∷ []

-- F0 F0 01 F8 F6 02: system exclusive that is cut off, without data by another one, and with one
-- byte and a clock by a tune request, which takes no data
abbrev pub Cut : Type 0
Cut =
    midi_outs (bytes (240 ∷ 240 ∷ 1 ∷ 248 ∷ 246 ∷ 2 ∷ []))
    ≡ span_note 13 0 9 0 0 ∷ span_note 11 30 39 248 0 ∷ span_note 13 10 29 1 0
    ∷ span_note 10 40 49 246 0 ∷ span_note 14 50 59 2 0 ∷ []

-- 05 FD F7 F4 01 F5 90 3C F6 40: data before any status and behind undefined ones, an F7h that ends
-- nothing, and a note that a tune request breaks off and that doesn't go on behind it
abbrev pub Strays : Type 0
Strays =
    midi_outs (bytes (5 ∷ 253 ∷ 247 ∷ 244 ∷ 1 ∷ 245 ∷ 144 ∷ 60 ∷ 246 ∷ 64 ∷ []))
    ≡ span_note 14 0 9 5 0 ∷ span_note 11 10 19 253 0 ∷ span_note 15 20 29 247 0
    ∷ span_note 15 30 39 244 0 ∷ span_note 14 40 49 1 0 ∷ span_note 15 50 59 245 0
    ∷ span_note 10 80 89 246 0 ∷ span_note 14 90 99 64 0 ∷ []

-- F1 35 36 F2 01 02 03 F3 04 05 E2 00 40: system common messages with a data byte more than they
-- take, and a pitch bend
abbrev pub OtherMessages : Type 0
OtherMessages =
    midi_outs
    (bytes (241 ∷ 53 ∷ 54 ∷ 242 ∷ 1 ∷ 2 ∷ 3 ∷ 243 ∷ 4 ∷ 5 ∷ 226 ∷ 0 ∷ 64 ∷ []))
    ≡ span_note 7 0 19 (says 241 53 0) 0 ∷ span_note 14 20 29 54 0
    ∷ span_note 8 30 59 (says 242 1 2) 0 ∷ span_note 14 60 69 3 0
    ∷ span_note 9 70 89 (says 243 4 0) 0 ∷ span_note 14 90 99 5 0
    ∷ span_note 6 100 129 (says 226 0 64) 0 ∷ []

-- a frame with an error and a break are passed over, and end nothing
abbrev pub Passed : Type 0
Passed =
    midi_outs (packet 0 UartFrame 128 0 ∷ packet 1 UartFrame 240 1 ∷ packet 2 UartFrame 60 0
    ∷ packet 3 UartBreak 0 0 ∷ packet 4 UartFrame 0 2 ∷ packet 5 UartFrame 1 0 ∷ [])
    ≡ span_note 0 0 59 (says 128 60 1) 0 ∷ []

-- system exclusive that nothing ends gives nothing, and is the near place
abbrev pub OpenExclusive : Type 0
OpenExclusive =
    (midi_outs (bytes (144 ∷ 240 ∷ 1 ∷ 2 ∷ [])) ≡ [])
    × (midi_near (bytes (144 ∷ 240 ∷ 1 ∷ 2 ∷ [])) 30 ≡ 10)

-- of a value of nine bits the lowest eight are read
abbrev pub NineBits : Type 0
NineBits =
    midi_outs (bytes (400 ∷ 316 ∷ 320 ∷ [])) ≡ span_note 1 0 29 (says 144 60 64) 0 ∷ []
