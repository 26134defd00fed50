-- An LM75 thermometer on a whole list of packets that count (LM75 data sheet, "Internal Register
-- Structure").
use Rattle.std.specs.Prelude.{ℕ, ◌+◌, ◌*◌, ◌/◌, ◌%◌, ◌==◌, if◌then◌else◌, List, [], ◌∷◌}
use Rattle.la_base.specs.declared.wires.Packet.{Packet}
use Rattle.la_base.specs.declared.wires.Out.{Out}
use Rattle.decoder_core.specs.Outputs.{span_note}
use Rattle.list_cuts.specs.Along.{along}
use Rattle.i2c_phases.specs.Phases.{Meaning, Nothing, Writes, Reads, Reset, byte_of, meanings}
use Rattle.i2c_phases.specs.Bytes.{byte_note}
use Rattle.i2c_phases.specs.Pointers.{points, pointer_set}
use Rattle.dev_lm75.specs.declared.chip.Chip.{Chip}

-- what a phase that sets the pointer makes it: the lowest two bits of its first byte ("Pointer
-- Register")
abbrev pub set_to : Meaning → ℕ
set_to Nothing = 0
set_to (Writes []) = 0
set_to (Writes (first ∷ bytes)) = byte_of first % 4
set_to (Reads bytes) = 0
set_to Reset = 0

-- the pointer behind some phases: 0 the temperature, 1 the configuration, 2 THYST, 3 TOS
abbrev pub pointer : List Meaning → ℕ
pointer before = pointer_set points set_to before

-- the upper nine bits of two bytes, high first ("Temperature Register", "THYST and TOS Registers")
abbrev pub half_degrees : Packet → Packet → ℕ
half_degrees first second = (byte_of first * 256 + byte_of second) / 128

-- a note of each byte, and of each two bytes; a rest of one gives nothing
abbrev pub singles : ℕ → List Packet → List Out
singles class [] = []
singles class (byte ∷ bytes) = byte_note class byte (byte_of byte) 0 ∷ singles class bytes

abbrev pub pairs : ℕ → List Packet → List Out
pairs class [] = []
pairs class (first ∷ []) = []
pairs class (first ∷ second ∷ bytes) =
    span_note class first.start second.end (half_degrees first second) 0 ∷ pairs class bytes

-- what bytes give that are written to a register, and that are read from it; the temperature can't
-- be written
abbrev pub write_outs : ℕ → List Packet → List Out
write_outs at bytes =
    if at == 1 then singles 1 bytes
    else (if at == 2 then pairs 4 bytes else (if at == 3 then pairs 6 bytes else []))

abbrev pub read_outs : ℕ → List Packet → List Out
read_outs at bytes =
    if at == 1 then singles 2 bytes
    else (if at == 2 then pairs 5 bytes else (if at == 3 then pairs 7 bytes else pairs 3 bytes))

-- what a phase gives, by the pointer before it
abbrev pub phase_outs : ℕ → Meaning → List Out
phase_outs from Nothing = []
phase_outs from (Writes []) = []
phase_outs from (Writes (first ∷ bytes)) =
    byte_note 0 first (byte_of first % 4) 0 ∷ write_outs (byte_of first % 4) bytes
phase_outs from (Reads bytes) = read_outs from bytes
phase_outs from Reset = []

-- what a phase gives behind earlier ones
abbrev pub step : List Meaning → Meaning → List Out
step before phase = phase_outs (pointer before) phase

-- *outputs*: all that packets give
unfoldable pub lm75_outs : Chip → List Packet → List Out
lm75_outs chip packets = along step (meanings (72 + chip.addr) chip.resets packets)
