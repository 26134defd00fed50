-- How a DS1307 is opened.
use Rattle.std.specs.Prelude.{◌≡◌, ◌≤◌, ◌==◌, List, [], Result, Ok, Err}
use Rattle.la_base.specs.declared.wires.Packet.{Packet}
use Rattle.decoder_core.specs.declared.faults.OptFault.{OptFault}
use Rattle.decoder_core.specs.declared.faults.OptFault.TheVariants.{Range}
use Rattle.i2c_phases.specs.declared.phased.Phased.{Phased}
use Rattle.i2c_phases.specs.Devices as devices
use Rattle.dev_ds1307.specs.declared.chip.Chip.{Chip}
use Rattle.dev_ds1307.specs.declared.chip.ClockOpts.{ClockOpts}
use Rattle.dev_ds1307.specs.declared.held.Clock.{Clock}
use Rattle.dev_ds1307.specs.laws.Held.{Knows}

-- the DS1307 of this option
abbrev pub chip_by : ClockOpts → Chip
chip_by opts = record { resets = opts.gcall == 1 }

-- the option is in its range
pub record InRange (opts : ClockOpts) : Type 0 where
  pub gcall : opts.gcall ≤ 1

-- the DS1307 of a decoder
abbrev pub chip_in : Phased Clock Chip → Chip
chip_in machine = machine.device.chip

-- a decoder stands for packets: its DS1307 knows their phases, and what is kept is what they leave
abbrev pub StandsFor : Phased Clock Chip → List Packet → Type 0
StandsFor machine packets =
    devices.StandsFor (Knows machine.device) 104 machine.device.chip.resets machine.kept packets

-- a decoder of this option that stands for no packets, or Range exactly where it is out of range
abbrev pub Opens : ClockOpts → Result (Phased Clock Chip) OptFault → Type 0
Opens opts (Ok machine) = InRange opts × (chip_in machine ≡ chip_by opts) × StandsFor machine []
Opens opts (Err fault) = (fault ≡ Range) × (¬ InRange opts)
