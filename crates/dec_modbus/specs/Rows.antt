-- Packets whose outputs are worked by hand. Frame j of a message goes from 100 j to 100 j + 95.
use Rattle.std.specs.Prelude.{ℕ, zero, suc, ◌+◌, ◌*◌, ◌≡◌, List, [], ◌∷◌, ◌++◌}
use Rattle.std.proofs.Math.Nat.{le-add_right}
use Rattle.la_base.specs.declared.wires.Packet.{Packet}
use Rattle.la_base.specs.declared.wires.Out.{Out}
use Rattle.la_base.specs.declared.wires.PacketKind.{PacketKind}
use Rattle.la_base.specs.declared.wires.PacketKind.TheVariants.{UartFrame, UartBreak}
use Rattle.decoder_core.specs.Outputs.{span_note}
use Rattle.dec_modbus.specs.Modbus.{modbus_outs, modbus_near}

-- a packet of so many samples and one more
abbrev pub spanned : PacketKind → ℕ → ℕ → ℕ → ℕ → Packet
spanned kind start length a b =
    record {
      kind = kind;
      start = start;
      end = start + length;
      a = a;
      b = b;
      in_order = le-add_right start length;
    }

abbrev pub frame : ℕ → ℕ → Packet
frame j byte = spanned UartFrame (100 * j) 95 byte 0

-- a note on one frame, and one on frames, by the first and the last
abbrev pub note : ℕ → ℕ → ℕ → Out
note class j byte = span_note class (100 * j) (100 * j + 95) byte 0

abbrev pub message : ℕ → ℕ → ℕ → ℕ → ℕ → Out
message class first last count b = span_note class (100 * first) (100 * last + 95) count b

-- "read ten holding registers of device 1" in eight frames, whose CRC ends with this byte, and a
-- frame after a silence
abbrev pub read_registers : ℕ → List Packet
read_registers byte =
    frame 0 1 ∷ frame 1 3 ∷ frame 2 0 ∷ frame 3 0 ∷ frame 4 0 ∷ frame 5 10 ∷ frame 6 197
    ∷ frame 7 byte ∷ frame 50 1 ∷ []

abbrev pub RequestOk : Type 0
RequestOk =
    modbus_outs 1000 (read_registers 205)
    ≡ note 0 0 1 ∷ note 1 1 3 ∷ note 2 2 0 ∷ note 2 3 0 ∷ note 2 4 0 ∷ note 2 5 10 ∷ note 2 6 197
    ∷ note 2 7 205 ∷ message 3 0 7 8 0 ∷ note 0 50 1 ∷ []

abbrev pub RequestBad : Type 0
RequestBad =
    modbus_outs 1000 (read_registers 204)
    ≡ note 0 0 1 ∷ note 1 1 3 ∷ note 2 2 0 ∷ note 2 3 0 ∷ note 2 4 0 ∷ note 2 5 10 ∷ note 2 6 197
    ∷ note 2 7 204 ∷ message 3 0 7 8 1 ∷ note 0 50 1 ∷ []

-- a frame that begins 5 samples behind the end of the one before goes on where the gap is 6 and
-- begins a message where it is 5
abbrev pub BelowGap : Type 0
BelowGap = modbus_outs 6 (frame 0 1 ∷ frame 1 2 ∷ []) ≡ note 0 0 1 ∷ note 1 1 2 ∷ []

abbrev pub AtGap : Type 0
AtGap =
    modbus_outs 5 (frame 0 1 ∷ frame 1 2 ∷ [])
    ≡ note 0 0 1 ∷ message 4 0 0 1 0 ∷ note 0 1 2 ∷ []

-- so does one that begins before that end
abbrev pub BeforeEnd : Type 0
BeforeEnd =
    modbus_outs 1 (spanned UartFrame 0 150 1 0 ∷ frame 1 2 ∷ [])
    ≡ span_note 0 0 150 1 0 ∷ note 1 1 2 ∷ []

-- a break ends a message and begins none
abbrev pub Broken : Type 0
Broken =
    modbus_outs 1000
    (frame 0 1 ∷ frame 1 2 ∷ frame 2 3 ∷ spanned UartBreak 300 95 0 0 ∷ frame 4 4 ∷ [])
    ≡ note 0 0 1 ∷ note 1 1 2 ∷ note 2 2 3 ∷ message 4 0 2 3 0 ∷ note 0 4 4 ∷ []

-- five bytes of an exception whose CRC is right
abbrev pub Exception : Type 0
Exception =
    modbus_outs 10
    (frame 0 10 ∷ frame 1 129 ∷ frame 2 2 ∷ frame 3 176 ∷ frame 4 83 ∷ frame 6 1 ∷ [])
    ≡ note 0 0 10 ∷ note 1 1 129 ∷ note 2 2 2 ∷ note 2 3 176 ∷ note 2 4 83 ∷ message 3 0 4 5 0
    ∷ note 0 6 1 ∷ []

-- an error of the line is told also where the message is too short
abbrev pub LineError : Type 0
LineError =
    modbus_outs 10
    (frame 0 1 ∷ spanned UartFrame 100 95 2 2 ∷ spanned UartBreak 300 95 0 0 ∷ [])
    ≡ note 0 0 1 ∷ note 1 1 2 ∷ message 6 0 1 2 0 ∷ []

-- a value of nine bits is read as its lowest eight
abbrev pub NineBits : Type 0
NineBits = modbus_outs 10 (frame 0 257 ∷ []) ≡ note 0 0 1 ∷ []

-- so many frames of 0 from frame j on, and their notes
abbrev pub zeros : ℕ → ℕ → List Packet
zeros j zero = []
zeros j (suc n) = frame j 0 ∷ zeros (suc j) n

abbrev pub zero_notes : ℕ → ℕ → List Out
zero_notes j zero = []
zero_notes j (suc n) = note 2 j 0 ∷ zero_notes (suc j) n

-- the shortest message and the longest one, with their CRCs
abbrev pub Shortest : Type 0
Shortest =
    modbus_outs 10 (frame 0 1 ∷ frame 1 2 ∷ frame 2 129 ∷ frame 3 225 ∷ frame 5 1 ∷ [])
    ≡ note 0 0 1 ∷ note 1 1 2 ∷ note 2 2 129 ∷ note 2 3 225 ∷ message 3 0 3 4 0 ∷ note 0 5 1 ∷ []

abbrev pub Longest : Type 0
Longest =
    modbus_outs 10
    (frame 0 1 ∷ frame 1 2 ∷ zeros 2 252 ++ frame 254 211 ∷ frame 255 158 ∷ frame 257 1 ∷ [])
    ≡ note 0 0 1 ∷ note 1 1 2 ∷ zero_notes 2 252
    ++ note 2 254 211 ∷ note 2 255 158 ∷ message 3 0 255 256 0 ∷ note 0 257 1 ∷ []

-- one byte more
abbrev pub TooLong : Type 0
TooLong =
    modbus_outs 10 (frame 0 1 ∷ frame 1 2 ∷ zeros 2 255 ++ frame 258 1 ∷ [])
    ≡ note 0 0 1 ∷ note 1 1 2 ∷ zero_notes 2 255 ++ message 5 0 256 257 0 ∷ note 0 258 1 ∷ []

-- a message is open from its first frame on; behind a break none is
abbrev pub NearOpen : Type 0
NearOpen = modbus_near 10 (frame 0 1 ∷ frame 2 1 ∷ frame 3 2 ∷ []) 300 ≡ 200

abbrev pub NearEnded : Type 0
NearEnded = modbus_near 10 (frame 0 1 ∷ frame 2 1 ∷ spanned UartBreak 300 95 0 0 ∷ []) 400 ≡ 400
