-- A DS1307 clock on a whole list of packets that count (DS1307 data sheet, "Clock and Calendar" and
-- "2-Wire Serial Data Bus").
use Rattle.std.specs.Prelude.{ℕ, ◌+◌, ◌-◌, ◌*◌, ◌%◌, ◌==◌, ◌&&◌, nat_le, if◌then◌else◌, List, []}
use Rattle.std.specs.Prelude.{◌∷◌, ◌++◌, length, drop}
use Rattle.la_base.specs.declared.wires.Packet.{Packet}
use Rattle.la_base.specs.declared.wires.Out.{Out}
use Rattle.decoder_core.specs.Outputs.{span_note}
use Rattle.list_cuts.specs.Along.{along}
use Rattle.i2c_phases.specs.Phases.{Meaning, Nothing, Writes, Reads, Reset, byte_of, meanings}
use Rattle.i2c_phases.specs.Bytes.{byte_note, byte_piece}
use Rattle.i2c_phases.specs.Pointers.{points, pointer_behind}
use Rattle.dev_ds1307.specs.declared.chip.Chip.{Chip}

-- a phase that sets the register pointer writes it first, and moves it by one with each byte behind
abbrev pub set_to : Meaning → ℕ
set_to Nothing = 0
set_to (Writes []) = 0
set_to (Writes (first ∷ bytes)) = byte_of first + length bytes
set_to (Reads bytes) = 0
set_to Reset = 0

-- one that reads moves it by one with each byte
abbrev pub moves : Meaning → ℕ
moves Nothing = 0
moves (Writes bytes) = 0
moves (Reads bytes) = length bytes
moves Reset = 0

-- the register of the next byte behind some phases: there are 64, and 63 is followed by 0 ("RTC and
-- RAM Address Map")
abbrev pub register : List Meaning → ℕ
register before = pointer_behind points set_to moves before % 64

-- bytes as a number, the first is the lowest
abbrev pub number_of : List Packet → ℕ
number_of [] = 0
number_of (byte ∷ bytes) = byte_of byte + 256 * number_of bytes

-- the last bytes, so many where there are as many
abbrev pub last_bytes : ℕ → List Packet → List Packet
last_bytes count bytes = drop (length bytes - count) bytes

-- where bytes start
abbrev pub start_of : List Packet → ℕ
start_of [] = 0
start_of (byte ∷ bytes) = byte.start

-- seven bytes in a row of a phase that are registers 0 to 6 are a time. Registers follow on one
-- another, so it is enough that the last one is 6 and that six bytes stand before it
abbrev pub time_outs : ℕ → ℕ → List Packet → Packet → List Out
time_outs class at before byte =
    if at == 6 && nat_le 6 (length before)
    then span_note class (start_of (last_bytes 6 before ++ byte ∷ [])) byte.end
    (number_of (last_bytes 6 before ++ byte ∷ [])) 0 ∷ []
    else []

-- what a byte gives behind those before it in its phase, the first of which is at register `from`:
-- a note, a time and a piece of these classes
abbrev pub byte_outs : ℕ → ℕ → ℕ → ℕ → List Packet → Packet → List Out
byte_outs note time piece from before byte =
    byte_note note byte (byte_of byte) ((from + length before) % 64)
    ∷ time_outs time ((from + length before) % 64) before byte ++ byte_piece piece byte ∷ []

-- what a phase gives, by the register before it
abbrev pub phase_outs : ℕ → Meaning → List Out
phase_outs from Nothing = []
phase_outs from (Writes []) = []
phase_outs from (Writes (first ∷ bytes)) =
    byte_note 0 first (byte_of first % 64) 0 ∷ along (byte_outs 1 3 0 (byte_of first)) bytes
phase_outs from (Reads bytes) = along (byte_outs 2 4 1 from) bytes
phase_outs from Reset = []

-- what a phase gives behind earlier ones
abbrev pub step : List Meaning → Meaning → List Out
step before phase = phase_outs (register before) phase

-- *outputs*: all that packets give
unfoldable pub clock_outs : Chip → List Packet → List Out
clock_outs chip packets = along step (meanings 104 chip.resets packets)
