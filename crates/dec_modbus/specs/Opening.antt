-- What a decoder of messages stands for, and how it is opened.
use Rattle.std.specs.Prelude.{◌≡◌, ◌≤◌, ◌^◌, List, [], Result, Ok, Err}
use Rattle.la_base.specs.declared.samples.Rate.{Rate}
use Rattle.la_base.specs.declared.wires.Packet.{Packet}
use Rattle.decoder_core.specs.declared.faults.OptFault.{OptFault}
use Rattle.decoder_core.specs.declared.faults.OptFault.TheVariants.{Range, Rate as TooSlow}
use Rattle.packet_walks.specs.declared.walking.Walking.{Walking}
use Rattle.dec_modbus.specs.declared.held.Held.{Held}
use Rattle.dec_modbus.specs.declared.held.ModbusOpts.{ModbusOpts}
use Rattle.dec_modbus.specs.declared.line.Line.{Line}
use Rattle.dec_modbus.specs.Modbus.{gap_of}
use Rattle.dec_modbus.specs.laws.Machine.{held_of}

abbrev pub ModbusDecoder : Type 0
ModbusDecoder = Walking Held Line

-- the options of a decoder, and the rate
abbrev pub line_of : ModbusDecoder → Line
line_of machine = machine.setup

-- a decoder stands for packets: it keeps what they leave to keep
abbrev pub StandsFor : ModbusDecoder → List Packet → Type 0
StandsFor machine packets =
    machine.held ≡ held_of (gap_of machine.setup.opts machine.setup.rate) packets

-- the option is in its range
abbrev pub InRange : ModbusOpts → Type 0
InRange opts = (1 ≤ opts.gap) × (opts.gap ≤ 10 ^ 9)

-- a decoder of these options at this rate that stands for no packets; Range exactly where the
-- option is out of range
abbrev pub Opens : ModbusOpts → Rate → Result ModbusDecoder OptFault → Type 0
Opens opts rate (Ok machine) =
    InRange opts × ((line_of machine).opts ≡ opts) × ((line_of machine).rate ≡ rate)
    × StandsFor machine []
Opens opts rate (Err Range) = ¬ InRange opts
Opens opts rate (Err TooSlow) = ⊥
