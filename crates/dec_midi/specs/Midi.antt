-- MIDI on a whole list of packets of a serial line, by the MIDI 1.0 Detailed Specification: "Data
-- bytes", "Status bytes", "Running status", "Real time messages" and "System exclusive". The bytes
-- are cut at their statuses: a *part* is a status with all that follows it up to the next one. Real
-- time messages may stand anywhere, also between a status and its data, and end nothing. Spans and
-- the notes on stray and undefined bytes are this project's own.
use Rattle.std.specs.Prelude.{ℕ, ◌+◌, ◌-◌, ◌*◌, ◌/◌, ◌%◌, ◌^◌, min, nat_lt, Bool, true, false, ◌&&◌}
use Rattle.std.specs.Prelude.{◌||◌, ◌==◌, if◌then◌else◌, List, [], ◌∷◌, ◌++◌, length, Option}
use Rattle.std.specs.Prelude.{Some, None}
use Rattle.std.specs.List.{filter, flat_map}
use Rattle.la_base.specs.declared.wires.Out.{Out}
use Rattle.la_base.specs.declared.wires.Packet.{Packet}
use Rattle.la_base.specs.declared.wires.PacketKind.{PacketKind}
use Rattle.la_base.specs.declared.wires.PacketKind.TheVariants.{UartFrame}
use Rattle.list_cuts.specs.Along.{along}
use Rattle.list_cuts.specs.Neighbours.{at_neighbours, last_of}
use Rattle.list_cuts.specs.Parts.{before_mark, parts}
use Rattle.decoder_core.specs.Outputs.{span_note}
use Rattle.decoder_core.specs.Packets.{last_start}
use Rattle.dec_midi.specs.declared.held.Sort.{Sort}
use Rattle.dec_midi.specs.declared.held.Sort.TheVariants.{Data, Status, RealTime}
use Rattle.dec_midi.specs.declared.held.Takes.{Takes}
use Rattle.dec_midi.specs.declared.held.Takes.TheVariants.{Nothing, One, Two, Ones, Twos, Any}

-- a frame of the line
abbrev pub is_frame : PacketKind → Bool
is_frame UartFrame = true
is_frame other = false

-- a byte is a frame without an error; every other packet is passed over
abbrev pub is_byte : Packet → Bool
is_byte packet = is_frame packet.kind && packet.b == 0

-- of a frame's value the lowest eight bits are read
abbrev pub as_byte : Packet → Packet
as_byte packet = record packet { a = packet.a % 256 }

abbrev pub byte_at : Packet → List Packet
byte_at packet = if is_byte packet then as_byte packet ∷ [] else []

-- the bytes among packets
abbrev pub bytes_in : List Packet → List Packet
bytes_in packets = flat_map byte_at packets

-- a data byte is below 80h, a status from 80h to F7h, and real time from F8h on
abbrev pub sort_of : ℕ → Sort
sort_of byte = if nat_lt byte 128 then Data else if nat_lt byte 248 then Status else RealTime

abbrev pub is_status_sort : Sort → Bool
is_status_sort Status = true
is_status_sort other = false

abbrev pub is_data_sort : Sort → Bool
is_data_sort Data = true
is_data_sort other = false

abbrev pub is_status : Packet → Bool
is_status byte = is_status_sort (sort_of byte.a)

-- the data bytes among bytes
abbrev pub data_in : List Packet → List Packet
data_in bytes = filter (λ byte. is_data_sort (sort_of byte.a)) bytes

-- what data a status takes: channel messages (8xh to Exh) by running status, so that they may go on
-- with no other status, system common messages (F1h to F3h) once, and system exclusive (F0h) as
-- many as there are
abbrev pub takes : ℕ → Takes
takes status =
    if nat_lt status 192 then Twos
    else if nat_lt status 224 then Ones
    else if nat_lt status 240 then Twos
    else if status == 240 then Any
    else if status == 242 then Two
    else if status == 241 || status == 243 then One
    else Nothing

-- the class of a message: 0 to 6 for 8xh to Exh, 7 to 9 for F1h to F3h
abbrev pub class_of : ℕ → ℕ
class_of status = if nat_lt status 240 then status / 16 - 8 else status - 234

-- a message of a status and two data bytes, the second 0 where it has only one
abbrev pub message : ℕ → ℕ → ℕ → ℕ → ℕ → List Out
message status first last one two =
    span_note (class_of status) first last (status * 65536 + one * 256 + two) 0 ∷ []

-- a byte by itself
abbrev pub byte_note : ℕ → Packet → List Out
byte_note class byte = span_note class byte.start byte.end byte.a 0 ∷ []

-- a data byte of no message
abbrev pub stray : Packet → List Out
stray byte = byte_note 14 byte

-- a message of one data byte, and of two
abbrev pub of_one : Packet → ℕ → Packet → List Out
of_one status from byte = message status.a from byte.end byte.a 0

abbrev pub of_two : Packet → ℕ → Packet → Packet → List Out
of_two status from one two = message status.a from two.end one.a two.a

-- where a message starts: with its status if that is right before it, else with its first data byte
abbrev pub starts : Bool → Packet → Packet → ℕ
starts true status one = status.start
starts false status one = one.start

-- a data byte behind those of its status that come before it. F1h and F3h take the first
abbrev pub one_outs : Packet → List Packet → Packet → List Out
one_outs status [] byte = of_one status status.start byte
one_outs status (one ∷ before) byte = stray byte

-- F2h takes the first two as one message
abbrev pub two_outs : Packet → List Packet → Packet → List Out
two_outs status [] byte = []
two_outs status (one ∷ []) byte = of_two status status.start one byte
two_outs status (one ∷ two ∷ before) byte = stray byte

-- Cxh and Dxh take each one as a message
abbrev pub ones_outs : Packet → List Packet → Packet → List Out
ones_outs status [] byte = of_one status status.start byte
ones_outs status (one ∷ before) byte = of_one status byte.start byte

-- 8xh to Bxh and Exh take them two by two, each two as a message. `first`: no message has come yet
abbrev pub twos_outs : Bool → Packet → List Packet → Packet → List Out
twos_outs first status [] byte = []
twos_outs first status (one ∷ []) byte = of_two status (starts first status one) one byte
twos_outs first status (one ∷ two ∷ before) byte = twos_outs false status before byte

-- F0h gives its note only when it is ended, and F4h to F7h take none
abbrev pub datum_outs : Takes → Packet → List Packet → Packet → List Out
datum_outs Nothing status before byte = stray byte
datum_outs One status before byte = one_outs status before byte
datum_outs Two status before byte = two_outs status before byte
datum_outs Ones status before byte = ones_outs status before byte
datum_outs Twos status before byte = twos_outs true status before byte
datum_outs Any status before byte = []

-- a byte of a part, behind its status and those before it
abbrev pub inside_by : Sort → Packet → List Packet → Packet → List Out
inside_by RealTime status before byte = byte_note 11 byte
inside_by other status before byte = datum_outs (takes status.a) status (data_in before) byte

abbrev pub inside_outs : Packet → List Packet → Packet → List Out
inside_outs status before byte = inside_by (sort_of byte.a) status before byte

-- a byte before any status
abbrev pub outside_by : Sort → Packet → List Out
outside_by RealTime byte = byte_note 11 byte
outside_by other byte = stray byte

abbrev pub outside_outs : Packet → List Out
outside_outs byte = outside_by (sort_of byte.a) byte

-- what a status gives by itself: a tune request (F6h), an undefined status (F4h, F5h), or an end of
-- exclusive (F7h) that ends nothing
abbrev pub own_outs : Packet → List Out
own_outs status =
    if status.a == 246 then byte_note 10 status
    else if status.a == 244 || (status.a == 245 || status.a == 247) then byte_note 15 status
    else []

-- where data bytes end, or `last` where there are none
abbrev pub data_end : ℕ → List Packet → ℕ
data_end last [] = last
data_end last (byte ∷ bytes) = data_end byte.end bytes

-- how many there are, up to 2^60
abbrev pub data_count : List Packet → ℕ
data_count bytes = min (length bytes) (2 ^ 60)

-- system exclusive is ended by any status: by an end of exclusive (F7h) as it should be, which then
-- gives nothing else, and too early by any other one, which gives its own note behind that
abbrev pub exclusive_outs : Packet → List Packet → Packet → List Out
exclusive_outs exclusive bytes status =
    if status.a == 247
    then span_note 12 exclusive.start status.end (data_count bytes) 0 ∷ []
    else span_note 13 exclusive.start (data_end exclusive.end bytes) (data_count bytes) 0
    ∷ own_outs status

-- what a status gives behind the part that it ends
abbrev pub behind_by : Takes → Packet → List Packet → Packet → List Out
behind_by Any exclusive bytes status = exclusive_outs exclusive bytes status
behind_by other before bytes status = own_outs status

abbrev pub status_outs : Option (List Packet) → Packet → List Out
status_outs None status = own_outs status
status_outs (Some []) status = own_outs status
status_outs (Some (before ∷ others)) status =
    behind_by (takes before.a) before (data_in others) status

-- what a part gives, behind the one before it: what its status does, and then each byte in turn
abbrev pub part_outs : ℕ → Option (List Packet) → List Packet → List Out
part_outs place before [] = []
part_outs place before (status ∷ others) =
    status_outs before status ++ along (inside_outs status) others

-- what bytes give: those before any status, and the parts
abbrev pub bytes_outs : List Packet → List Out
bytes_outs bytes =
    flat_map outside_outs (before_mark is_status bytes)
    ++ at_neighbours part_outs (parts is_status bytes)

-- *outputs*: all that packets give
unfoldable pub midi_outs : List Packet → List Out
midi_outs packets = bytes_outs (bytes_in packets)

-- where the message starts that has begun behind a status and isn't whole, or `last`: F1h to F3h,
-- Cxh and Dxh have begun until their first message is whole
abbrev pub one_near : Packet → List Packet → ℕ → ℕ
one_near status [] last = status.start
one_near status (one ∷ bytes) last = last

abbrev pub two_near : Packet → List Packet → ℕ → ℕ
two_near status [] last = status.start
two_near status (one ∷ []) last = status.start
two_near status (one ∷ two ∷ bytes) last = last

-- of two by two, each has begun with its first data byte; the first with its status
abbrev pub twos_near : Bool → Packet → List Packet → ℕ → ℕ
twos_near true status [] last = status.start
twos_near false status [] last = last
twos_near first status (one ∷ []) last = starts first status one
twos_near first status (one ∷ two ∷ bytes) last = twos_near false status bytes last

-- system exclusive has begun until it is ended
abbrev pub part_near : Takes → Packet → List Packet → ℕ → ℕ
part_near Nothing status bytes last = last
part_near One status bytes last = one_near status bytes last
part_near Two status bytes last = two_near status bytes last
part_near Ones status bytes last = one_near status bytes last
part_near Twos status bytes last = twos_near true status bytes last
part_near Any status bytes last = status.start

abbrev pub near_in : Option (List Packet) → ℕ → ℕ
near_in None last = last
near_in (Some []) last = last
near_in (Some (status ∷ others)) last = part_near (takes status.a) status (data_in others) last

-- *near*: the start of what has begun in the last part and may still give notes; else the place
-- from which on all that come start
unfoldable pub midi_near : List Packet → ℕ → ℕ
midi_near packets from = near_in (last_of (parts is_status (bytes_in packets))) from
