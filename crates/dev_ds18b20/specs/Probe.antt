-- A DS18B20 thermometer on 1-Wire, on a whole list of packets of its network: what is told of its
-- *transactions*, each of which runs from a reset to the next. By Maxim's data sheet "DS18B20
-- Programmable Resolution 1-Wire Digital Thermometer", sections "64-Bit Lasered ROM Code",
-- "Transaction Sequence" and "DS18B20 Function Commands" for what a transaction says; "Memory" with
-- its figure "DS18B20 Memory Map", and "Configuration Register" for the scratchpad; and "Operation
-- - Measuring Temperature" with its figure "Temperature Register Format" for the temperature. That
-- a ROM of its family makes a transaction the thermometer's after any command that has a ROM is
-- this project's own, as are spans.
use Rattle.std.specs.Prelude.{ℕ, ◌+◌, ◌-◌, ◌*◌, ◌/◌, ◌%◌, ◌^◌, Bool, true, false, cond, not, ◌==◌}
use Rattle.std.specs.Prelude.{if◌then◌else◌, List, [], ◌∷◌, ◌++◌, map, take, drop, get_or, Option}
use Rattle.std.specs.Prelude.{Some, None}
use Rattle.std.specs.List.{filter}
use Rattle.la_base.specs.declared.wires.Out.{Out}
use Rattle.la_base.specs.declared.wires.Packet.{Packet}
use Rattle.la_base.specs.declared.wires.PacketKind.{PacketKind}
use Rattle.la_base.specs.declared.wires.PacketKind.TheVariants.{NetReset, NetCommand, NetRom}
use Rattle.la_base.specs.declared.wires.PacketKind.TheVariants.{NetByte}
use Rattle.list_cuts.specs.Bits.{bit_of}
use Rattle.decoder_core.specs.Outputs.{span_note, span_piece}
use Rattle.dec_onewire.specs.Net.{crc8}
use Rattle.packet_walks.specs.Transactions.{Device, transaction_outs, transaction_near}
use Rattle.dev_ds18b20.specs.declared.spot.Spot.{Spot}

abbrev pub is_reset : PacketKind → Bool
is_reset NetReset = true
is_reset other = false

abbrev pub is_byte : PacketKind → Bool
is_byte NetByte = true
is_byte other = false

-- what makes a transaction the thermometer's: Skip ROM (CCh), which is for all devices, or a ROM of
-- its family (28h), which is the lowest byte
abbrev pub makes_own : PacketKind → ℕ → Bool
makes_own NetCommand a = a == 204
makes_own NetRom a = a % 256 == 40
makes_own other a = false

abbrev pub is_own : Packet → Bool
is_own packet = makes_own packet.kind packet.a

-- the packets behind the first that makes a transaction the thermometer's, if there is one
abbrev pub behind_own : List Packet → Option (List Packet)
behind_own [] = None
behind_own (packet ∷ packets) = cond (is_own packet) (Some packets) (behind_own packets)

-- the byte of a packet, the lowest eight bits of its value, and where it starts and ends
abbrev pub spot_of : Packet → Spot
spot_of packet = record { start = packet.start; end = packet.end; byte = packet.a % 256 }

-- the bytes among packets
abbrev pub bytes_in : List Packet → List Spot
bytes_in packets = map spot_of (filter (λ packet. is_byte packet.kind) packets)

-- a byte by its place, and its value
abbrev pub blank : Spot
blank = record { start = 0; end = 0; byte = 0 }

abbrev pub nth : List Spot → ℕ → Spot
nth bytes place = get_or bytes place blank

abbrev pub value : List Spot → ℕ → ℕ
value bytes place = (nth bytes place).byte

-- a note from the start of one byte to the end of another, and a piece
abbrev pub note_over : ℕ → Spot → Spot → ℕ → ℕ → Out
note_over class first last a b = span_note class first.start last.end a b

abbrev pub byte_piece : Spot → Out
byte_piece byte = span_piece 0 byte.start byte.end byte.byte

-- the resolution in bits is 9 and what bits 6 and 5 of the configuration say
abbrev pub steps_of : ℕ → ℕ
steps_of configuration = configuration / 32 % 4

abbrev pub resolution : ℕ → ℕ
resolution configuration = 9 + steps_of configuration

-- the temperature in 16 bits, the second byte the higher one; of the lowest bits, which a
-- resolution of less than twelve bits leaves undefined, each is 0
abbrev pub temperature : ℕ → ℕ → ℕ → ℕ
temperature low high configuration =
    (high * 256 + low) / 2 ^ (3 - steps_of configuration) * 2 ^ (3 - steps_of configuration)

-- the CRC of the scratchpad's first eight bytes
unfoldable pub crc_of : List Spot → ℕ
crc_of bytes =
    crc8 (value bytes 0 ∷ value bytes 1 ∷ value bytes 2 ∷ value bytes 3 ∷ value bytes 4
    ∷ value bytes 5 ∷ value bytes 6 ∷ value bytes 7 ∷ [])

-- the scratchpad's first eight bytes, and the ninth, which is their CRC: the temperature, the
-- limits TH and TL, the configuration
abbrev pub scratchpad_outs : List Spot → Spot → List Out
scratchpad_outs bytes last =
    note_over 1 (nth bytes 0) (nth bytes 1)
    (temperature (value bytes 0) (value bytes 1) (value bytes 4)) 0
    ∷ note_over 2 (nth bytes 2) (nth bytes 3) (value bytes 2) (value bytes 3)
    ∷ note_over 3 (nth bytes 4) (nth bytes 4) (resolution (value bytes 4)) 0
    ∷ note_over 4 last last (bit_of (not (crc_of bytes == last.byte))) 0
    ∷ map byte_piece bytes
    ++ byte_piece last ∷ []

-- three bytes that are written: TH, TL and the configuration
abbrev pub written_outs : List Spot → Spot → List Out
written_outs bytes last =
    note_over 5 (nth bytes 0) (nth bytes 1) (value bytes 0) (value bytes 1)
    ∷ note_over 6 last last (resolution last.byte) 0
    ∷ []

-- what the first n bytes give with the one behind them, if there is one
abbrev pub with_last : (List Spot → Spot → List Out) → List Spot → List Spot → List Out
with_last give front [] = []
with_last give front (last ∷ others) = give front last

abbrev pub first_bytes : ℕ → (List Spot → Spot → List Out) → List Spot → List Out
first_bytes n give bytes = with_last give (take n bytes) (drop n bytes)

-- what the bytes behind a function give: Read Scratchpad (BEh) has nine, Write Scratchpad (4Eh)
-- three
abbrev pub behind_function : ℕ → List Spot → List Out
behind_function function bytes =
    if function == 190 then first_bytes 8 scratchpad_outs bytes
    else if function == 78 then first_bytes 2 written_outs bytes
    else []

-- the first byte is the function
abbrev pub bytes_outs : List Spot → List Out
bytes_outs [] = []
bytes_outs (function ∷ bytes) =
    note_over 0 function function function.byte 0 ∷ behind_function function.byte bytes

abbrev pub own_outs : Option (List Packet) → List Out
own_outs None = []
own_outs (Some packets) = bytes_outs (bytes_in packets)

-- a thermometer by its transactions
abbrev pub probe : Device
probe = record {
  begins = λ packet. is_reset packet.kind;
  ends = λ packet. is_reset packet.kind;
  inside = λ packets. own_outs (behind_own packets);
  closing = λ packets. [];
}

-- *outputs*: all that packets give
abbrev pub probe_outs : List Packet → List Out
probe_outs packets = transaction_outs probe packets

-- *near*: the start of the reset that opened the present transaction; where none is open, the place
-- from which on all that come start
abbrev pub probe_near : List Packet → ℕ → ℕ
probe_near packets from = transaction_near probe packets from
