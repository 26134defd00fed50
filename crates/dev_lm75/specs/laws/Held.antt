-- What an LM75 keeps of the phases that it knows, and what a byte gives.
use Rattle.std.specs.Prelude.{ℕ, ◌≡◌, ◌+◌, ◌*◌, ◌/◌, ◌%◌, ◌==◌, if◌then◌else◌, List, [], ◌∷◌}
use Rattle.la_base.specs.declared.wires.Packet.{Packet}
use Rattle.la_base.specs.declared.wires.Out.{Out}
use Rattle.decoder_core.specs.Outputs.{span_note}
use Rattle.i2c_phases.specs.Phases.{Meaning, Nothing, Writes, Reads, Reset, byte_of}
use Rattle.i2c_phases.specs.Bytes.{byte_note}
use Rattle.i2c_phases.specs.Pointers.{of_last}
use Rattle.dev_lm75.specs.declared.held.Part.{Part}
use Rattle.dev_lm75.specs.declared.held.Part.TheVariants.{Fresh, Even, Half}
use Rattle.dev_lm75.specs.declared.held.Held.{Held}
use Rattle.dev_lm75.specs.declared.held.Lm75.{Lm75}
use Rattle.dev_lm75.specs.Thermometer.{pointer}

-- what bytes in pairs leave; `none` where all are paired
abbrev pub left_of : Part → List Packet → Part
left_of none [] = none
left_of none (first ∷ []) = Half (byte_of first) first.start
left_of none (first ∷ second ∷ bytes) = left_of none bytes

-- what a phase leaves
abbrev pub part_in : Meaning → Part
part_in Nothing = Fresh
part_in (Writes []) = Fresh
part_in (Writes (first ∷ bytes)) = left_of Even bytes
part_in (Reads bytes) = left_of Fresh bytes
part_in Reset = Fresh

-- what is kept of phases
unfoldable pub held_of : List Meaning → Held
held_of phases = record { pointer = pointer phases; part = of_last part_in Fresh phases }

-- what one more byte gives where each counts, and where each two do
abbrev pub byte_gives : ℕ → Packet → List Out
byte_gives class packet = byte_note class packet (byte_of packet) 0 ∷ []

abbrev pub pair_gives : ℕ → Part → Packet → List Out
pair_gives class Fresh packet = []
pair_gives class Even packet = []
pair_gives class (Half high first) packet =
    span_note class first packet.end ((high * 256 + byte_of packet) / 128) 0 ∷ []

-- what bytes in pairs leave behind one more
abbrev pub next_part : Part → Part → Packet → Part
next_part none Fresh packet = Half (byte_of packet) packet.start
next_part none Even packet = Half (byte_of packet) packet.start
next_part none (Half high first) packet = none

-- what one more byte gives that is written behind the pointer byte, and that is read
abbrev pub set_gives : ℕ → Part → Packet → List Out
set_gives at part packet =
    if at == 1 then byte_gives 1 packet
    else (if at == 2 then pair_gives 4 part packet
    else (if at == 3 then pair_gives 6 part packet else []))

abbrev pub get_gives : ℕ → Part → Packet → List Out
get_gives at part packet =
    if at == 1 then byte_gives 2 packet
    else (if at == 2 then pair_gives 5 part packet
    else (if at == 3 then pair_gives 7 part packet else pair_gives 3 part packet))

-- what a byte that is written gives, and what is then kept
abbrev pub put_gives : ℕ → Part → Packet → List Out
put_gives at Fresh packet = byte_note 0 packet (byte_of packet % 4) 0 ∷ []
put_gives at Even packet = set_gives at Even packet
put_gives at (Half high first) packet = set_gives at (Half high first) packet

abbrev pub put_by : ℕ → Part → Packet → Held
put_by at Fresh packet = record { pointer = byte_of packet % 4; part = Even }
put_by at Even packet = record { pointer = at; part = Half (byte_of packet) packet.start }
put_by at (Half high first) packet = record { pointer = at; part = Even }

-- an LM75 knows phases: it keeps what they leave
abbrev pub Knows : Lm75 → List Meaning → Type 0
Knows device phases = device.held ≡ held_of phases
