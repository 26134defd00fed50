-- The network of 1-Wire on a whole list of packets of its link. A *segment* is all that follows a
-- reset which a device has answered, up to the next reset: Maxim's application note 126, "1-Wire
-- Communication Through Software", table "1-Wire Operations" for the reset and its answer, and its
-- code for bytes, whose least significant bit comes first. The first eight bits of a segment are a
-- ROM command. Behind some of them follows a ROM: as 64 bits, or found bit by bit in a search, by
-- application note 187, "1-Wire Search Algorithm", table "Bit Search Information". All other bits
-- are bytes. The last byte of a ROM is the CRC of the others, by application note 27,
-- "Understanding and Using Cyclic Redundancy Checks with Maxim 1-Wire and iButton Products", figure
-- "Dallas 1-Wire 8-Bit CRC".
use Rattle.std.specs.Prelude.{ℕ, zero, suc, ◌/◌, ◌%◌, nat_lt, Bool, true, false, not, ◌||◌, ◌==◌}
use Rattle.std.specs.Prelude.{if◌then◌else◌, List, [], ◌∷◌, ◌++◌, length, map, take, drop}
use Rattle.std.specs.Prelude.{slice_index, Option, Some, None}
use Rattle.std.specs.List.{filter, flat_map}
use Rattle.std.specs.Int.{to_le_bytes, w64}
use Rattle.std.specs.Int.Bits.{bit_xor}
use Rattle.la_base.specs.declared.wires.Out.{Out}
use Rattle.la_base.specs.declared.wires.Packet.{Packet}
use Rattle.la_base.specs.declared.wires.PacketKind.{PacketKind}
use Rattle.la_base.specs.declared.wires.PacketKind.TheVariants.{OwReset, OwPresence, OwBit}
use Rattle.la_base.specs.declared.wires.PacketKind.TheVariants.{NetReset, NetCommand, NetRom}
use Rattle.la_base.specs.declared.wires.PacketKind.TheVariants.{NetByte}
use Rattle.list_cuts.specs.Bits.{bit_of, low_first}
use Rattle.list_cuts.specs.Groups.{groups, after_groups}
use Rattle.list_cuts.specs.Parts.{parts}
use Rattle.decoder_core.specs.Outputs.{span_note, span_piece, span_packet}
use Rattle.decoder_core.specs.Packets.{last_start}
use Rattle.dec_onewire.specs.declared.net.held.Role.{Role}
use Rattle.dec_onewire.specs.declared.net.held.Role.TheVariants.{Command, Rom, Search, Byte}

-- a reset
abbrev pub is_reset : PacketKind → Bool
is_reset OwReset = true
is_reset other = false

-- the answer to a reset
abbrev pub is_presence : PacketKind → Bool
is_presence OwPresence = true
is_presence other = false

-- a bit
abbrev pub is_bit : PacketKind → Bool
is_bit OwBit = true
is_bit other = false

-- a bit is the lowest one of a packet's value
abbrev pub bit_in : Packet → Bool
bit_in packet = packet.a % 2 == 1

-- the number that bits make up, the first the lowest
abbrev pub number_of : List Packet → ℕ
number_of bits = low_first (map bit_in bits)

-- the last packet of some
abbrev pub last_in : Packet → List Packet → Packet
last_in packet [] = packet
last_in packet (next ∷ packets) = last_in next packets

-- what the last packet of some says
abbrev pub last_bit : List Packet → Bool
last_bit [] = false
last_bit (packet ∷ packets) = bit_in (last_in packet packets)

-- a step of a search is three bits: a bit of the ROM of each device that still takes part, its
-- complement, and the direction that the master takes, which is the last of the three. The
-- directions are the ROM that is found
abbrev pub directions : List Packet → List Bool
directions bits = map last_bit (groups 3 bits)

-- how many bits a command, a ROM, a search and a byte have
abbrev pub size_of : Role → ℕ
size_of Command = 8
size_of Rom = 64
size_of Search = 192
size_of Byte = 8

-- the number that such bits say
abbrev pub number_in : Role → List Packet → ℕ
number_in Command bits = number_of bits
number_in Rom bits = number_of bits
number_in Search bits = low_first (directions bits)
number_in Byte bits = number_of bits

-- behind Read ROM (33h), Match ROM (55h) and Overdrive match ROM (69h) the ROM is sent
abbrev pub sends_rom : ℕ → Bool
sends_rom command = command == 51 || (command == 85 || command == 105)

-- Search ROM (F0h) and Alarm search (ECh) search
abbrev pub searches : ℕ → Bool
searches command = command == 240 || command == 236

-- what stands between a command and the bytes, if anything does
abbrev pub rom_behind : ℕ → Option Role
rom_behind command =
    if sends_rom command then Some Rom else if searches command then Some Search else None

-- bits of a segment that belong together: a command, a ROM, a search or a byte
pub record Group : Type 0 where
  pub role : Role
  pub bits : List Packet

-- bits that are cut into whole groups, and those behind them, too few for another one
pub record Cut : Type 0 where
  pub whole : List Group
  pub rest : List Packet

-- a whole group in front of others
abbrev pub headed : Role → List Packet → Cut → Cut
headed role bits others =
    record { whole = record { role = role; bits = bits } ∷ others.whole; rest = others.rest }

-- the first bits have this role, if there are enough of them, and the others are cut by what those
-- say
abbrev pub first_group : Role → (List Packet → List Packet → Cut) → List Packet → Cut
first_group role others bits =
    if nat_lt (length bits) (size_of role) then record { whole = []; rest = bits }
    else headed role (take (size_of role) bits)
    (others (take (size_of role) bits) (drop (size_of role) bits))

-- each eight bits are a byte
abbrev pub bytes_cut : List Packet → Cut
bytes_cut bits =
    record {
      whole = map (λ byte. record { role = Byte; bits = byte }) (groups 8 bits);
      rest = after_groups 8 bits;
    }

-- the bits behind a command: a ROM or a search, if it has one, and bytes
abbrev pub behind : Option Role → List Packet → Cut
behind None bits = bytes_cut bits
behind (Some rom) bits = first_group rom (λ first others. bytes_cut others) bits

-- the bits of a segment: a command, and what stands behind it
abbrev pub segment_cut : List Packet → Cut
segment_cut bits =
    first_group Command (λ command others. behind (rom_behind (number_of command)) others) bits

-- the register of the CRC shifts to the right; where a 1 leaves, the polynomial x^8 + x^5 + x^4 + 1
-- (8Ch) comes in
abbrev pub shifted : ℕ → ℕ
shifted crc = if crc % 2 == 1 then bit_xor (crc / 2) 140 else crc / 2

-- n shifts
abbrev pub shifts : ℕ → ℕ → ℕ
shifts zero crc = crc
shifts (suc n) crc = shifts n (shifted crc)

-- the register behind some bytes, each of which goes in with its eight bits
abbrev pub crc_from : ℕ → List ℕ → ℕ
crc_from crc [] = crc
crc_from crc (byte ∷ bytes) = crc_from (shifts 8 (bit_xor crc byte)) bytes

-- the CRC of bytes
abbrev pub crc8 : List ℕ → ℕ
crc8 bytes = crc_from 0 bytes

-- whether the last byte of a ROM isn't the CRC of the seven before it
abbrev pub crc_wrong : ℕ → Bool
crc_wrong rom = not (crc8 (take 7 (to_le_bytes w64 rom)) == slice_index (to_le_bytes w64 rom) 7)

-- where some bits start
abbrev pub starts_at : List Packet → ℕ
starts_at [] = 0
starts_at (packet ∷ packets) = packet.start

-- where they end
abbrev pub ends_at : List Packet → ℕ
ends_at [] = 0
ends_at (packet ∷ packets) = (last_in packet packets).end

-- what a command gives, by where it starts and ends and by its number
abbrev pub command_outs : ℕ → ℕ → ℕ → List Out
command_outs first last command =
    span_note 1 first last command 0 ∷ span_packet NetCommand first last command 0 ∷ []

-- a ROM, with 1 as its second value where its CRC is wrong
abbrev pub rom_outs : ℕ → ℕ → ℕ → List Out
rom_outs first last rom =
    span_note 2 first last rom (bit_of (crc_wrong rom))
    ∷ span_packet NetRom first last rom (bit_of (crc_wrong rom)) ∷ []

-- a byte
abbrev pub byte_outs : ℕ → ℕ → ℕ → List Out
byte_outs first last byte =
    span_note 3 first last byte 0 ∷ span_piece 0 first last byte
    ∷ span_packet NetByte first last byte 0 ∷ []

-- what bits of a role give
abbrev pub role_outs : Role → ℕ → ℕ → ℕ → List Out
role_outs Command first last number = command_outs first last number
role_outs Rom first last number = rom_outs first last number
role_outs Search first last number = rom_outs first last number
role_outs Byte first last number = byte_outs first last number

-- a group, from the start of its first bit to the end of its last
abbrev pub group_outs : Group → List Out
group_outs group =
    role_outs group.role (starts_at group.bits) (ends_at group.bits)
    (number_in group.role group.bits)

-- a reset that a device has answered, from the one's start to the other's end
abbrev pub reset_outs : Packet → Packet → List Out
reset_outs reset presence =
    span_note 0 reset.start presence.end 0 0 ∷ span_packet NetReset reset.start presence.end 0 0
    ∷ []

-- the bits among packets
abbrev pub bits_in : List Packet → List Packet
bits_in packets = filter (λ packet. is_bit packet.kind) packets

-- what stands from a reset up to the next is a segment, if a presence stands right behind the reset
abbrev pub segment_outs : List Packet → List Out
segment_outs [] = []
segment_outs (reset ∷ []) = []
segment_outs (reset ∷ presence ∷ others) =
    if is_presence presence.kind then reset_outs reset presence
    ++ flat_map group_outs (segment_cut (bits_in others)).whole else []

-- from a reset up to the next
abbrev pub resets : List Packet → List (List Packet)
resets packets = parts (λ packet. is_reset packet.kind) packets

-- *outputs*: all that packets give
unfoldable pub net_outs : List Packet → List Out
net_outs packets = flat_map segment_outs (resets packets)

-- the last of some lists
abbrev pub last_part : List (List Packet) → List Packet
last_part [] = []
last_part (part ∷ []) = part
last_part (part ∷ next ∷ parts) = last_part (next ∷ parts)

-- where bits start, if there are any
abbrev pub begun_at : List Packet → ℕ → ℕ
begun_at [] last = last
begun_at (packet ∷ packets) last = packet.start

-- what has begun from a reset on
abbrev pub near_in : List Packet → ℕ → ℕ
near_in [] last = last
near_in (reset ∷ []) last = reset.start
near_in (reset ∷ presence ∷ others) last =
    if is_presence presence.kind then begun_at (segment_cut (bits_in others)).rest last else last

-- *near*: where the reset starts behind which nothing stands yet, or the bits that are left over of
-- a segment; else the place from which on all that come start
unfoldable pub net_near : List Packet → ℕ → ℕ
net_near packets from = near_in (last_part (resets packets)) from
