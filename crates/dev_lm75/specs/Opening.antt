-- How an LM75 is opened.
use Rattle.std.specs.Prelude.{◌+◌, ◌≡◌, ◌≤◌, ◌==◌, List, [], Result, Ok, Err}
use Rattle.la_base.specs.declared.wires.Packet.{Packet}
use Rattle.decoder_core.specs.declared.faults.OptFault.{OptFault}
use Rattle.decoder_core.specs.declared.faults.OptFault.TheVariants.{Range}
use Rattle.i2c_phases.specs.declared.phased.Phased.{Phased}
use Rattle.i2c_phases.specs.Devices as devices
use Rattle.dev_lm75.specs.declared.chip.Chip.{Chip}
use Rattle.dev_lm75.specs.declared.chip.Lm75Opts.{Lm75Opts}
use Rattle.dev_lm75.specs.declared.held.Lm75.{Lm75}
use Rattle.dev_lm75.specs.laws.Held.{Knows}

-- the LM75 of these options
abbrev pub chip_by : Lm75Opts → Chip
chip_by opts = record { addr = opts.addr; resets = opts.gcall == 1 }

-- each option is in its range
pub record InRange (opts : Lm75Opts) : Type 0 where
  pub addr : opts.addr ≤ 7
  pub gcall : opts.gcall ≤ 1

-- the LM75 of a decoder
abbrev pub chip_in : Phased Lm75 Chip → Chip
chip_in machine = machine.device.chip

-- a decoder stands for packets: its LM75 knows their phases, and what is kept is what they leave
abbrev pub StandsFor : Phased Lm75 Chip → List Packet → Type 0
StandsFor machine packets =
    devices.StandsFor (Knows machine.device)
    (72 + machine.device.chip.addr) machine.device.chip.resets machine.kept packets

-- a decoder of these options that stands for no packets, or Range exactly where one is out of range
abbrev pub Opens : Lm75Opts → Result (Phased Lm75 Chip) OptFault → Type 0
Opens opts (Ok machine) = InRange opts × (chip_in machine ≡ chip_by opts) × StandsFor machine []
Opens opts (Err fault) = (fault ≡ Range) × (¬ InRange opts)
