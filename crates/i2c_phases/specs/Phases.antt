-- The phases of packets of I2C: from a start to the next start or stop, and what they mean to a
-- device.
use Rattle.std.specs.Prelude.{ℕ, ◌==◌, ◌%◌, ◌&&◌, ◌||◌, Bool, true, false, if◌then◌else◌, List, []}
use Rattle.std.specs.Prelude.{◌∷◌, length, map, Option, Some, None}
use Rattle.std.specs.List.{filter, flat_map}
use Rattle.la_base.specs.declared.wires.Packet.{Packet}
use Rattle.la_base.specs.declared.wires.PacketKind.{PacketKind}
use Rattle.la_base.specs.declared.wires.PacketKind.TheVariants.{I2cStart, I2cStop, I2cAddress}
use Rattle.la_base.specs.declared.wires.PacketKind.TheVariants.{I2cData, I2cAck}
use Rattle.decoder_core.specs.Packets.{last_start}
use Rattle.list_cuts.specs.Parts.{parts}

abbrev pub is_start : PacketKind → Bool
is_start I2cStart = true
is_start other = false

abbrev pub is_stop : PacketKind → Bool
is_stop I2cStop = true
is_stop other = false

abbrev pub is_address : PacketKind → Bool
is_address I2cAddress = true
is_address other = false

abbrev pub is_data : PacketKind → Bool
is_data I2cData = true
is_data other = false

abbrev pub is_ack : PacketKind → Bool
is_ack I2cAck = true
is_ack other = false

-- where phases begin and end
abbrev pub is_mark : Packet → Bool
is_mark packet = is_start packet.kind || is_stop packet.kind

-- a part that begins with a start is a phase; its packets are those behind the start
abbrev pub phase_in : List Packet → List (List Packet)
phase_in [] = []
phase_in (packet ∷ packets) = if is_start packet.kind then packets ∷ [] else []

-- all phases
abbrev pub phases : List Packet → List (List Packet)
phases packets = flat_map phase_in (parts is_mark packets)

-- a packet, and those behind it
pub record Behind : Type 0 where
  pub packet : Packet
  pub others : List Packet

-- the first packet of a kind
abbrev pub first_of : (PacketKind → Bool) → List Packet → Option Behind
first_of test [] = None
first_of test (packet ∷ packets) =
    if test packet.kind then Some (record { packet = packet; others = packets })
    else first_of test packets

-- an address with the packets behind its acknowledge bit, where that is 0
abbrev pub when_acked : Packet → Option Behind → Option Behind
when_acked address None = None
when_acked address (Some ack) =
    if ack.packet.a == 0 then Some (record { packet = address; others = ack.others }) else None

abbrev pub with_ack : Option Behind → Option Behind
with_ack None = None
with_ack (Some address) = when_acked address.packet (first_of is_ack address.others)

-- the first address of a phase with the packets behind its acknowledge bit, where that is 0
abbrev pub acknowledged : List Packet → Option Behind
acknowledged phase = with_ack (first_of is_address phase)

-- the data packets among packets; a byte is the lowest eight bits of one
abbrev pub data_in : List Packet → List Packet
data_in packets = filter (λ packet. is_data packet.kind) packets

abbrev pub byte_of : Packet → ℕ
byte_of packet = packet.a % 256

-- what a phase is to a device: bytes that are written to it or read from it, a reset by a general
-- call, or nothing
pub data Meaning : Type 0 where
  Nothing : Meaning
  Writes : List Packet → Meaning
  Reads : List Packet → Meaning
  Reset : Meaning

-- the first byte of a phase is 6, and stands behind the acknowledge
abbrev pub is_six : List Packet → Bool
is_six [] = false
is_six (packet ∷ packets) = byte_of packet == 6

abbrev pub is_reset : List Packet → Behind → Bool
is_reset phase address =
    (address.packet.a == 0 && address.packet.b == 0) && (length (data_in phase) == length
    (data_in address.others) && is_six (data_in address.others))

abbrev pub meaning_by : ℕ → Bool → List Packet → Option Behind → Meaning
meaning_by device resets phase None = Nothing
meaning_by device resets phase (Some address) =
    if address.packet.a == device && address.packet.b == 0 then Writes (data_in address.others)
    else (if address.packet.a == device && address.packet.b == 1 then Reads (data_in address.others)
    else (if resets && is_reset phase address then Reset else Nothing))

-- a phase, to the device at an address that takes a general call's reset or doesn't
abbrev pub meaning : ℕ → Bool → List Packet → Meaning
meaning device resets phase = meaning_by device resets phase (acknowledged phase)

-- all phases, to this device
abbrev pub meanings : ℕ → Bool → List Packet → List Meaning
meanings device resets packets = map (meaning device resets) (phases packets)

-- the last part
abbrev pub last_part : List (List Packet) → List Packet
last_part [] = []
last_part (part ∷ []) = part
last_part (part ∷ next ∷ parts) = last_part (next ∷ parts)

-- where a phase starts, else `last`
abbrev pub starts_at : ℕ → List Packet → ℕ
starts_at last [] = last
starts_at last (packet ∷ packets) = if is_start packet.kind then packet.start else last

-- *near*: where the open phase starts, else the place from which on all that come start
abbrev pub phase_near : List Packet → ℕ → ℕ
phase_near packets from = starts_at from (last_part (parts is_mark packets))
