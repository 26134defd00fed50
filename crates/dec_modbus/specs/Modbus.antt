-- Messages of Modbus RTU on a whole list of packets of a serial line, by the "MODBUS over Serial
-- Line Specification and Implementation Guide" V1.02, sections "RTU Transmission Mode" and "CRC
-- Checking". A *message* is a maximal row of frames without a break or a silence between them. Its
-- first byte is an address, its second a function, and its last two are the CRC of the others. How
-- long a silence is, spans and what is told of lengths are this project's own.
use Rattle.std.specs.Prelude.{ℕ, zero, suc, ◌+◌, ◌-◌, ◌*◌, ◌/◌, ◌%◌, ◌^◌, min, nat_lt, Bool, true}
use Rattle.std.specs.Prelude.{false, not, ◌&&◌, ◌==◌, if◌then◌else◌, List, [], ◌∷◌, ◌++◌, length}
use Rattle.std.specs.Prelude.{map, take, get_or, Option, Some, None}
use Rattle.std.specs.List.{list_any}
use Rattle.std.specs.Int.Bits.{bit_xor}
use Rattle.la_base.specs.declared.samples.Rate.{Rate}
use Rattle.la_base.specs.declared.wires.Out.{Out}
use Rattle.la_base.specs.declared.wires.Packet.{Packet}
use Rattle.la_base.specs.declared.wires.PacketKind.{PacketKind}
use Rattle.la_base.specs.declared.wires.PacketKind.TheVariants.{UartFrame}
use Rattle.list_cuts.specs.Bits.{bit_of}
use Rattle.list_cuts.specs.Neighbours.{at_neighbours, last_of}
use Rattle.decoder_core.specs.Outputs.{span_note}
use Rattle.decoder_core.specs.Packets.{last_start}
use Rattle.rate_math.specs.Counts.{samples_of_ns}
use Rattle.dec_modbus.specs.declared.held.ModbusOpts.{ModbusOpts}

-- how many samples of silence part two messages: `gap` nanoseconds, rounded up
abbrev pub gap_of : ModbusOpts → Rate → ℕ
gap_of opts rate = samples_of_ns rate.num rate.den opts.gap

-- every other packet of a serial line is a break
abbrev pub is_frame : PacketKind → Bool
is_frame UartFrame = true
is_frame other = false

-- a frame begins less than `gap` samples behind an end, or before it
abbrev pub follows : ℕ → ℕ → Packet → Bool
follows gap end packet = is_frame packet.kind && nat_lt packet.start (end + gap)

-- two neighbours are of one message: frames, the second of which begins less than `gap` samples
-- behind the end of the first
abbrev pub together : ℕ → Packet → Packet → Bool
together gap before packet = is_frame before.kind && follows gap before.end packet

-- an item in front of rows is in one row with the next one where the two are together, else it is a
-- row of its own
abbrev pub in_front : {X : Type 0} → (X → X → Bool) → X → List (List X) → List (List X)
in_front pair x [] = (x ∷ []) ∷ []
in_front pair x ([] ∷ others) = (x ∷ []) ∷ others
in_front pair x ((next ∷ row) ∷ others) =
    if pair x next then (x ∷ next ∷ row) ∷ others else (x ∷ []) ∷ (next ∷ row) ∷ others

-- a list as its maximal rows in which each two neighbours are together
abbrev pub rows : {X : Type 0} → (X → X → Bool) → List X → List (List X)
rows pair [] = []
rows pair (x ∷ xs) = in_front pair x (rows pair xs)

-- packets as messages and breaks: each break is a row of its own
abbrev pub messages : ℕ → List Packet → List (List Packet)
messages gap packets = rows (together gap) packets

-- a byte is the lowest eight bits of a frame's value
abbrev pub byte_in : Packet → ℕ
byte_in frame = frame.a % 256

-- what a frame gives by its place in its message: an address (0), a function (1), or another byte;
-- a break gives nothing
abbrev pub byte_outs : ℕ → Packet → List Out
byte_outs place packet =
    if is_frame packet.kind
    then span_note (min place 2) packet.start packet.end (byte_in packet) 0 ∷ [] else []

-- what the packets of a row give
abbrev pub bytes_outs : List Packet → List Out
bytes_outs row = at_neighbours (λ place before packet. byte_outs place packet) row

-- the register of the CRC shifts to the right; where a 1 leaves, the polynomial A001h comes in
abbrev pub shifted : ℕ → ℕ
shifted crc = if crc % 2 == 1 then bit_xor (crc / 2) 40961 else crc / 2

-- n shifts
abbrev pub shifts : ℕ → ℕ → ℕ
shifts zero crc = crc
shifts (suc n) crc = shifts n (shifted crc)

-- the register behind some bytes, each of which goes in with its eight bits
abbrev pub crc_from : ℕ → List ℕ → ℕ
crc_from crc [] = crc
crc_from crc (byte ∷ bytes) = crc_from (shifts 8 (bit_xor crc byte)) bytes

-- the CRC of bytes: the register is FFFFh at first
abbrev pub crc16 : List ℕ → ℕ
crc16 bytes = crc_from 65535 bytes

-- the CRC that a message of at least two bytes sends: its last two bytes, the lower one first
abbrev pub crc_sent : List ℕ → ℕ
crc_sent bytes =
    get_or bytes (length bytes - 2) 0 + 256 * get_or bytes (length bytes - 1) 0

-- whether that isn't the CRC of the bytes before these
abbrev pub crc_wrong : List ℕ → Bool
crc_wrong bytes = not (crc16 (take (length bytes - 2) bytes) == crc_sent bytes)

-- whether a frame of a message has an error
abbrev pub has_error : List Packet → Bool
has_error row = list_any (λ frame. not (frame.b == 0)) row

-- the note on a message, by where it starts and ends, the number of its bytes, whether one of its
-- frames has an error, and whether its CRC is wrong: errors of the line (class 6), too short (4),
-- too long (5), or else its CRC (3). No more than 2^60 bytes are told
abbrev pub message_note : ℕ → ℕ → ℕ → Bool → Bool → Out
message_note first last count errors wrong =
    if errors then span_note 6 first last (min count (2 ^ 60)) 0
    else if nat_lt count 4 then span_note 4 first last (min count (2 ^ 60)) 0
    else if nat_lt 256 count then span_note 5 first last (min count (2 ^ 60)) 0
    else span_note 3 first last (min count (2 ^ 60)) (bit_of wrong)

-- the last of an item and others behind it
abbrev pub last_in : {X : Type 0} → X → List X → X
last_in x [] = x
last_in x (next ∷ others) = last_in next others

-- what is told of a row that has ended, if it is a message: it goes from the start of its first
-- frame to the end of its last
abbrev pub message_outs : List Packet → List Out
message_outs [] = []
message_outs (first ∷ others) =
    if is_frame first.kind
    then message_note first.start (last_in first others).end (length (first ∷ others))
    (has_error (first ∷ others)) (crc_wrong (map byte_in (first ∷ others))) ∷ [] else []

-- a message ends where another row begins: its note stands before what that row gives
abbrev pub rows_outs : List (List Packet) → List Out
rows_outs [] = []
rows_outs (row ∷ []) = bytes_outs row
rows_outs (row ∷ next ∷ others) =
    bytes_outs row ++ (message_outs row ++ rows_outs (next ∷ others))

-- *outputs*: all that packets give
unfoldable pub modbus_outs : ℕ → List Packet → List Out
modbus_outs gap packets = rows_outs (messages gap packets)

-- where a message starts, else `last`
abbrev pub started_at : Option (List Packet) → ℕ → ℕ
started_at None last = last
started_at (Some []) last = last
started_at (Some (first ∷ others)) last = if is_frame first.kind then first.start else last

-- *near*: where the message starts that nothing has ended, else the place from which on all that
-- come start
unfoldable pub modbus_near : ℕ → List Packet → ℕ → ℕ
modbus_near gap packets from = started_at (last_of (messages gap packets)) from
