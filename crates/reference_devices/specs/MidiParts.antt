-- The parts of MIDI as the reference program puts them together, byte by byte.
use Rattle.std.specs.Prelude.{if◌then◌else◌, List, [], ◌∷◌, ◌++◌, Option, Some, None, option_map}
use Rattle.la_base.specs.declared.wires.Out.{Out}
use Rattle.la_base.specs.declared.wires.Packet.{Packet}
use Rattle.dec_midi.specs.Midi.{inside_outs, is_status, outside_outs, status_outs}
use Rattle.reference_devices.specs.declared.midi_bytes.Datum.{Datum}
use Rattle.reference_devices.specs.declared.midi_bytes.Status.{Status}

-- the packets of a status and of a data byte
abbrev pub head : Option Status → Option Packet
head status = option_map (λ s. s.byte) status

abbrev pub datum : Datum → Packet
datum own = own.byte

-- the part that a status and the bytes behind it make, if there is a status
abbrev pub part_by : Option Packet → List Packet → Option (List Packet)
part_by None others = None
part_by (Some status) others = Some (status ∷ others)

-- what a byte gives that is no status
abbrev pub inner_outs : Option Packet → List Packet → Packet → List Out
inner_outs None others byte = outside_outs byte
inner_outs (Some status) others byte = inside_outs status others byte

-- what a byte gives behind the last part
abbrev pub byte_gives : Option Packet → List Packet → Packet → List Out
byte_gives status others byte =
    if is_status byte then status_outs (part_by status others) byte
    else inner_outs status others byte

-- the status of the last part behind a byte, and the others of that part
abbrev pub head_behind : Option Packet → Packet → Option Packet
head_behind status byte = if is_status byte then Some byte else status

abbrev pub others_behind : List Packet → Packet → List Packet
others_behind others byte = if is_status byte then [] else others ++ byte ∷ []
