-- What a decoder of messages keeps between two packets, and how one packet changes that.
use Rattle.std.specs.Prelude.{ℕ, ◌+◌, ◌-◌, ◌*◌, ◌^◌, min, nat_lt, Bool, not, ◌||◌, ◌==◌, List, []}
use Rattle.std.specs.Prelude.{if◌then◌else◌, ◌∷◌, length, map, take, get_or, Option, Some, None}
use Rattle.std.specs.Int.Bits.{bit_xor}
use Rattle.la_base.specs.declared.wires.Out.{Out}
use Rattle.la_base.specs.declared.wires.Packet.{Packet}
use Rattle.list_cuts.specs.Neighbours.{last_of}
use Rattle.packet_walks.specs.Walks.{PacketWalk}
use Rattle.dec_modbus.specs.declared.held.Held.{Held}
use Rattle.dec_modbus.specs.declared.held.Held.TheVariants.{Outside, Inside}
use Rattle.dec_modbus.specs.declared.held.Message.{Message}
use Rattle.dec_modbus.specs.Modbus.{is_frame, follows, messages, byte_in, byte_outs, shifts, crc16}
use Rattle.dec_modbus.specs.Modbus.{has_error, message_note, last_in}

-- the CRC of all bytes but the last two
abbrev pub crc_before : List ℕ → ℕ
crc_before bytes = crc16 (take (length bytes - 2) bytes)

-- what is kept of a message, by its bytes
abbrev pub kept_of : Packet → List Packet → List ℕ → Message
kept_of first others bytes =
    record {
      start = first.start;
      end = (last_in first others).end;
      count = min (length (first ∷ others)) (2 ^ 60);
      crc = crc_before bytes;
      low = get_or bytes (length bytes - 2) 0;
      high = get_or bytes (length bytes - 1) 0;
      errors = has_error (first ∷ others);
    }

abbrev pub message_of : Packet → List Packet → Message
message_of first others = kept_of first others (map byte_in (first ∷ others))

-- what is kept of a row that nothing has ended yet
abbrev pub held_in : Option (List Packet) → Held
held_in None = Outside
held_in (Some []) = Outside
held_in (Some (first ∷ others)) =
    if is_frame first.kind then Inside (message_of first others) else Outside

-- what is kept of all packets
unfoldable pub held_of : ℕ → List Packet → Held
held_of gap packets = held_in (last_of (messages gap packets))

-- whether the last two bytes aren't the CRC of the others
abbrev pub wrong_in : Message → Bool
wrong_in message = not (message.crc == message.low + 256 * message.high)

-- the note on a message
abbrev pub note_of : Message → Out
note_of message =
    message_note message.start message.end message.count message.errors (wrong_in message)

-- whether a packet has an error
abbrev pub is_bad : Packet → Bool
is_bad packet = not (packet.b == 0)

-- a message of one frame
abbrev pub begun : Packet → Message
begun packet =
    record {
      start = packet.start;
      end = packet.end;
      count = 1;
      crc = 65535;
      low = byte_in packet;
      high = byte_in packet;
      errors = is_bad packet;
    }

-- the CRC behind one more byte: where there were two, the first of them goes in
abbrev pub longer_crc : Message → ℕ
longer_crc message =
    if nat_lt message.count 2 then message.crc
    else shifts 8 (bit_xor message.crc message.low)

-- a message with one more frame
abbrev pub longer : Message → Packet → Message
longer message packet =
    record {
      start = message.start;
      end = packet.end;
      count = min message.count (2 ^ 60 - 1) + 1;
      crc = longer_crc message;
      low = message.high;
      high = byte_in packet;
      errors = message.errors || is_bad packet;
    }

-- what is kept behind a packet that begins a row
abbrev pub begin_next : Packet → Held
begin_next packet = if is_frame packet.kind then Inside (begun packet) else Outside

-- what a packet gives behind a message, where it goes on with it, and where it ends it
abbrev pub inside_gives : Bool → Message → Packet → List Out
inside_gives on message packet =
    if on then byte_outs message.count packet else note_of message ∷ byte_outs 0 packet

-- what is kept behind it
abbrev pub inside_next : Bool → Message → Packet → Held
inside_next on message packet = if on then Inside (longer message packet) else begin_next packet

-- what a packet gives
abbrev pub gives : ℕ → Held → Packet → List Out
gives gap Outside packet = byte_outs 0 packet
gives gap (Inside message) packet =
    inside_gives (follows gap message.end packet) message packet

-- what is kept behind it
abbrev pub next : ℕ → Held → Packet → Held
next gap Outside packet = begin_next packet
next gap (Inside message) packet =
    inside_next (follows gap message.end packet) message packet

-- where the message starts that nothing has ended yet; else the place from which on all that come
-- start
abbrev pub near_by : Held → ℕ → ℕ
near_by Outside last = last
near_by (Inside message) last = message.start

-- the walk from packet to packet
abbrev pub modbus_walk : ℕ → PacketWalk Held
modbus_walk gap = record { begin = Outside; next = next gap; gives = gives gap; near = near_by }
