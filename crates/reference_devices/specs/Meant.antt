-- What the values of the reference programs stand for.
use Rattle.std.specs.Prelude.{ℕ, ◌+◌, ◌%◌, Bool, if◌then◌else◌, Option, Some, None}
use Rattle.la_base.specs.declared.wires.PacketKind.{PacketKind}
use Rattle.i2c_phases.specs.Phases as phases
use Rattle.dev_eeprom24.specs.declared.chip.Chip.{Chip}
use Rattle.dev_eeprom24.specs.Eeprom.{reads_of, set_to, sets}
use Rattle.dev_ds1307.specs.Clock as clock
use Rattle.dev_lm75.specs.Thermometer as thermometer
use Rattle.i2c_phases.specs.Pointers.{points}
use Rattle.reference_devices.specs.declared.phases.Found.{Found}
use Rattle.reference_devices.specs.declared.phases.Meaning.{Meaning}
use Rattle.reference_devices.specs.declared.phases.Meaning.TheVariants as meaning
use Rattle.reference_devices.specs.declared.phases.Wanted.{Wanted}
use Rattle.reference_devices.specs.declared.phases.Wanted.TheVariants.{Address, Ack}

-- what a phase means
abbrev pub meant : Meaning → phases.Meaning
meant meaning.Nothing = phases.Nothing
meant (meaning.Writes bytes) = phases.Writes bytes.items
meant (meaning.Reads bytes) = phases.Reads bytes.items
meant meaning.Reset = phases.Reset

-- a packet that was found, with those behind it
abbrev pub found_one : Found → phases.Behind
found_one found = record { packet = found.packet; others = found.others.now }

abbrev pub found : Option Found → Option phases.Behind
found None = None
found (Some one) = Some (found_one one)

-- whether a kind of packet is what is looked for
abbrev pub wants : Wanted → PacketKind → Bool
wants Address kind = phases.is_address kind
wants Ack kind = phases.is_ack kind

-- where the pointer stands behind a phase
abbrev pub moved : Chip → ℕ → phases.Meaning → ℕ
moved chip at phase =
    if sets chip phase then set_to chip phase % chip.size
    else (at + reads_of chip phase) % chip.size

abbrev pub clock_moved : ℕ → phases.Meaning → ℕ
clock_moved at phase =
    if points phase then clock.set_to phase % 64
    else (at + clock.moves phase) % 64

abbrev pub lm75_moved : ℕ → phases.Meaning → ℕ
lm75_moved at phase = if points phase then thermometer.set_to phase else at
