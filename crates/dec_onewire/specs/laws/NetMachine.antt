-- What a decoder of the network keeps between two packets, and how one packet changes that.
use Rattle.std.specs.Prelude.{ℕ, ◌+◌, ◌*◌, ◌/◌, ◌%◌, ◌^◌, min, nat_lt, Bool, ◌==◌, if◌then◌else◌}
use Rattle.std.specs.Prelude.{List, [], ◌∷◌, length, Option, Some, None}
use Rattle.la_base.specs.declared.wires.Out.{Out}
use Rattle.la_base.specs.declared.wires.Packet.{Packet}
use Rattle.la_base.specs.declared.wires.PacketKind.TheVariants.{NetReset}
use Rattle.list_cuts.specs.Bits.{bit_of}
use Rattle.decoder_core.specs.Outputs.{span_note, span_packet}
use Rattle.dec_onewire.specs.declared.net.held.Begun.{Begun}
use Rattle.dec_onewire.specs.declared.net.held.Held.{Held}
use Rattle.dec_onewire.specs.declared.net.held.Held.TheVariants.{Outside, Reset, Inside}
use Rattle.dec_onewire.specs.declared.net.held.Role.{Role}
use Rattle.dec_onewire.specs.declared.net.held.Role.TheVariants.{Command, Rom, Search, Byte}
use Rattle.dec_onewire.specs.Net.{is_reset, is_presence, is_bit, bit_in, size_of, number_in}
use Rattle.dec_onewire.specs.Net.{rom_behind, Group, Cut, segment_cut, bits_in, starts_at}
use Rattle.dec_onewire.specs.Net.{role_outs, resets, last_part}
use Rattle.packet_walks.specs.Walks.{PacketWalk}

-- no bit has come of what is next
abbrev pub none_begun : Begun
none_begun = record { count = 0; start = 0; number = 0 }

-- what stands behind a command, by the ROM that it has
abbrev pub role_by : Option Role → Role
role_by None = Byte
role_by (Some rom) = rom

-- what stands behind bits of a role that say this number
abbrev pub role_next : Role → ℕ → Role
role_next Command number = role_by (rom_behind number)
role_next Rom number = Byte
role_next Search number = Byte
role_next Byte number = Byte

-- what stands behind groups, the first of which has this role
abbrev pub role_behind : Role → List Group → Role
role_behind role [] = role
role_behind role (group ∷ groups) =
    role_behind (role_next role (number_in group.role group.bits)) groups

-- what is kept of bits that are too few for a role
abbrev pub begun_by : Role → List Packet → Begun
begun_by role rest =
    record { count = length rest; start = starts_at rest; number = number_in role rest }

-- what is kept of the bits of a segment
abbrev pub inside_of : Cut → Held
inside_of cut =
    Inside (role_behind Command cut.whole) (begun_by (role_behind Command cut.whole) cut.rest)

-- what is kept from a reset on
abbrev pub held_in : List Packet → Held
held_in [] = Outside
held_in (reset ∷ []) = Reset reset.start
held_in (reset ∷ presence ∷ others) =
    if is_presence presence.kind then inside_of (segment_cut (bits_in others)) else Outside

-- what is kept of all packets
unfoldable pub held_of : List Packet → Held
held_of packets = held_in (last_part (resets packets))

-- a number of so many bits with one more bit above them; a decoder that stands for no packets may
-- hold any number
abbrev pub put_bit : ℕ → ℕ → Bool → ℕ
put_bit place number bit = number % 2 ^ min place 63 + bit_of bit * 2 ^ min place 63

-- the number that bits say with one more; in a search each third one is a direction
abbrev pub with_bit : Role → Begun → Bool → ℕ
with_bit Command begun bit = put_bit begun.count begun.number bit
with_bit Rom begun bit = put_bit begun.count begun.number bit
with_bit Search begun bit =
    if begun.count % 3 == 2 then put_bit (begun.count / 3) begun.number bit else begun.number
with_bit Byte begun bit = put_bit begun.count begun.number bit

-- where they start
abbrev pub start_of : Begun → Packet → ℕ
start_of begun packet = if begun.count == 0 then packet.start else begun.start

-- what whole bits give; a byte is below 256
abbrev pub given_by : Role → ℕ → ℕ → ℕ → List Out
given_by Command first last number = role_outs Command first last number
given_by Rom first last number = role_outs Rom first last number
given_by Search first last number = role_outs Search first last number
given_by Byte first last number = role_outs Byte first last (number % 256)

-- what one more bit gives
abbrev pub bit_gives : Role → Begun → Packet → List Out
bit_gives role begun packet =
    if nat_lt (begun.count + 1) (size_of role) then []
    else given_by role (start_of begun packet) packet.end (with_bit role begun (bit_in packet))

-- what is kept behind it
abbrev pub bit_next : Role → Begun → Packet → Held
bit_next role begun packet =
    if nat_lt (begun.count + 1) (size_of role)
    then Inside role
    (record {
      count = begun.count + 1;
      start = start_of begun packet;
      number = with_bit role begun (bit_in packet);
    })
    else Inside (role_next role (with_bit role begun (bit_in packet))) none_begun

-- what the packet right behind a reset gives, which starts at `start`
abbrev pub answered_gives : ℕ → Packet → List Out
answered_gives start packet =
    if is_presence packet.kind
    then span_note 0 start packet.end 0 0 ∷ span_packet NetReset start packet.end 0 0 ∷ [] else []

-- what is kept behind it
abbrev pub answered_next : Packet → Held
answered_next packet = if is_presence packet.kind then Inside Command none_begun else Outside

-- what a packet gives that is no reset
abbrev pub inside_gives : Held → Packet → List Out
inside_gives Outside packet = []
inside_gives (Reset start) packet = answered_gives start packet
inside_gives (Inside role begun) packet =
    if is_bit packet.kind then bit_gives role begun packet else []

-- what is kept behind it
abbrev pub inside_next : Held → Packet → Held
inside_next Outside packet = Outside
inside_next (Reset start) packet = answered_next packet
inside_next (Inside role begun) packet =
    if is_bit packet.kind then bit_next role begun packet else Inside role begun

-- what a packet gives
abbrev pub gives : Held → Packet → List Out
gives held packet = if is_reset packet.kind then [] else inside_gives held packet

-- what is kept behind it
abbrev pub next : Held → Packet → Held
next held packet = if is_reset packet.kind then Reset packet.start else inside_next held packet

-- where the reset starts that nothing has followed yet, or what has begun and isn't whole; else the
-- place from which on all that come start
abbrev pub near_by : Held → ℕ → ℕ
near_by Outside last = last
near_by (Reset start) last = start
near_by (Inside role begun) last = if begun.count == 0 then last else begun.start

-- the walk from packet to packet
abbrev pub net_walk : PacketWalk Held
net_walk = record { begin = Outside; next = next; gives = gives; near = near_by }
