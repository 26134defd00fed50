-- What a decoder of MIDI keeps between two packets, and how one packet changes that.
use Rattle.std.specs.Prelude.{ℕ, ◌+◌, ◌-◌, ◌%◌, ◌^◌, min, Bool, true, false, ◌==◌, if◌then◌else◌}
use Rattle.std.specs.Prelude.{List, [], ◌∷◌, Option, Some, None}
use Rattle.la_base.specs.declared.wires.Out.{Out}
use Rattle.la_base.specs.declared.wires.Packet.{Packet}
use Rattle.list_cuts.specs.Neighbours.{last_of}
use Rattle.list_cuts.specs.Parts.{parts}
use Rattle.decoder_core.specs.Outputs.{span_note}
use Rattle.packet_walks.specs.Walks.{PacketWalk}
use Rattle.dec_midi.specs.declared.held.Held.{Held}
use Rattle.dec_midi.specs.declared.held.Held.TheVariants.{Stray, Running, Begun, Exclusive}
use Rattle.dec_midi.specs.declared.held.Sort.{Sort}
use Rattle.dec_midi.specs.declared.held.Sort.TheVariants.{Data, Status, RealTime}
use Rattle.dec_midi.specs.declared.held.Takes.{Takes}
use Rattle.dec_midi.specs.declared.held.Takes.TheVariants.{Nothing, One, Two, Ones, Twos, Any}
use Rattle.dec_midi.specs.Midi.{is_byte, as_byte, bytes_in, sort_of, is_status, data_in, takes, message}
use Rattle.dec_midi.specs.Midi.{byte_note, stray, starts, own_outs, data_end, data_count}

-- whether a message has two data bytes, and whether another one may follow with no other status
abbrev pub by_two : Takes → Bool
by_two Two = true
by_two Twos = true
by_two other = false

abbrev pub runs : Takes → Bool
runs Ones = true
runs Twos = true
runs other = false

-- what is kept of a status and its data
abbrev pub one_held : Packet → List Packet → Held
one_held status [] = Begun status.a status.start None
one_held status (one ∷ bytes) = Stray

abbrev pub two_held : Packet → List Packet → Held
two_held status [] = Begun status.a status.start None
two_held status (one ∷ []) = Begun status.a status.start (Some one.a)
two_held status (one ∷ two ∷ bytes) = Stray

abbrev pub ones_held : Packet → List Packet → Held
ones_held status [] = Begun status.a status.start None
ones_held status (one ∷ bytes) = Running status.a

abbrev pub twos_held : Bool → Packet → List Packet → Held
twos_held true status [] = Begun status.a status.start None
twos_held false status [] = Running status.a
twos_held first status (one ∷ []) = Begun status.a (starts first status one) (Some one.a)
twos_held first status (one ∷ two ∷ bytes) = twos_held false status bytes

abbrev pub part_held : Takes → Packet → List Packet → Held
part_held Nothing status bytes = Stray
part_held One status bytes = one_held status bytes
part_held Two status bytes = two_held status bytes
part_held Ones status bytes = ones_held status bytes
part_held Twos status bytes = twos_held true status bytes
part_held Any status bytes = Exclusive status.start (data_end status.end bytes) (data_count bytes)

-- what is kept of the last part
abbrev pub held_in : Option (List Packet) → Held
held_in None = Stray
held_in (Some []) = Stray
held_in (Some (status ∷ others)) = part_held (takes status.a) status (data_in others)

-- what is kept of all packets
unfoldable pub held_of : List Packet → Held
held_of packets = held_in (last_of (parts is_status (bytes_in packets)))

-- the first data byte of a message that starts there
abbrev pub first_gives : Bool → ℕ → ℕ → Packet → List Out
first_gives two status start byte =
    if two then [] else message status start byte.end byte.a 0

-- what is kept behind a whole message
abbrev pub behind : ℕ → Held
behind status = if runs (takes status) then Running status else Stray

abbrev pub first_next : Bool → ℕ → ℕ → Packet → Held
first_next two status start byte =
    if two then Begun status start (Some byte.a) else behind status

-- what a data byte gives, and what is kept behind it
abbrev pub begun_gives : ℕ → ℕ → Option ℕ → Packet → List Out
begun_gives status start None byte = first_gives (by_two (takes status)) status start byte
begun_gives status start (Some one) byte = message status start byte.end one byte.a

abbrev pub data_gives : Held → Packet → List Out
data_gives Stray byte = stray byte
data_gives (Running status) byte =
    first_gives (by_two (takes status)) status byte.start byte
data_gives (Begun status start first) byte = begun_gives status start first byte
data_gives (Exclusive start end count) byte = []

abbrev pub begun_next : ℕ → ℕ → Option ℕ → Packet → Held
begun_next status start None byte = first_next (by_two (takes status)) status start byte
begun_next status start (Some one) byte = behind status

abbrev pub data_next : Held → Packet → Held
data_next Stray byte = Stray
data_next (Running status) byte = first_next (by_two (takes status)) status byte.start byte
data_next (Begun status start first) byte = begun_next status start first byte
data_next (Exclusive start end count) byte =
    Exclusive start byte.end (min count (2 ^ 60 - 1) + 1)

-- what a status gives, and what is kept behind it
abbrev pub status_gives : Held → Packet → List Out
status_gives (Exclusive start end count) status =
    if status.a == 247 then span_note 12 start status.end count 0 ∷ []
    else span_note 13 start end count 0 ∷ own_outs status
status_gives other status = own_outs status

abbrev pub opened : Takes → Packet → Held
opened Nothing status = Stray
opened Any status = Exclusive status.start status.end 0
opened other status = Begun status.a status.start None

-- what a byte gives, and what is kept behind it
abbrev pub sort_gives : Sort → Held → Packet → List Out
sort_gives Data held byte = data_gives held byte
sort_gives Status held byte = status_gives held byte
sort_gives RealTime held byte = byte_note 11 byte

abbrev pub sort_next : Sort → Held → Packet → Held
sort_next Data held byte = data_next held byte
sort_next Status held byte = opened (takes byte.a) byte
sort_next RealTime held byte = held

-- what a packet gives, and what is kept behind it
abbrev pub gives : Held → Packet → List Out
gives held packet =
    if is_byte packet then sort_gives (sort_of (packet.a % 256)) held (as_byte packet) else []

abbrev pub next : Held → Packet → Held
next held packet =
    if is_byte packet then sort_next (sort_of (packet.a % 256)) held (as_byte packet) else held

-- where that starts which has begun and may still give notes; else where the last packet does
abbrev pub near_by : Held → ℕ → ℕ
near_by Stray last = last
near_by (Running status) last = last
near_by (Begun status start first) last = start
near_by (Exclusive start end count) last = start

-- the walk from packet to packet
abbrev pub midi_walk : PacketWalk Held
midi_walk = record { begin = Stray; next = next; gives = gives; near = near_by }
