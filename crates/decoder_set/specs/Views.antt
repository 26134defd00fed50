-- What a decoder of any kind sees of the machine that it holds.
use Rattle.std.specs.Prelude.{ℕ, ◌≡◌, List, Option}
use Rattle.dec_i2c.specs.Opening as i2c
use Rattle.dec_i2c.specs.declared.held.I2c.{I2c}
use Rattle.dec_i2c.specs.declared.held.I2cOpts.{I2cOpts}
use Rattle.dec_modbus.specs.Opening as modbus
use Rattle.dec_modbus.specs.Opening.{ModbusDecoder}
use Rattle.dec_modbus.specs.declared.held.ModbusOpts.{ModbusOpts}
use Rattle.dec_spi.specs.Opening as spi
use Rattle.dec_spi.specs.declared.held.Spi.{Spi}
use Rattle.dec_spi.specs.declared.options.SpiOpts.{SpiOpts}
use Rattle.dec_uart.specs.Opening as uart
use Rattle.dec_uart.specs.declared.held.Uart.{Uart}
use Rattle.dec_uart.specs.declared.options.UartOpts.{UartOpts}
use Rattle.dec_onewire.specs.Opening as onewire
use Rattle.dec_onewire.specs.declared.link.held.OwLink.{OwLink}
use Rattle.dec_onewire.specs.declared.link.options.OwLinkOpts.{OwLinkOpts}
use Rattle.dev_ds1307.specs.Opening as clock
use Rattle.dev_ds1307.specs.declared.chip.Chip.{Chip as ClockChip}
use Rattle.dev_ds1307.specs.declared.chip.ClockOpts.{ClockOpts}
use Rattle.dev_ds1307.specs.declared.held.Clock.{Clock}
use Rattle.dev_lm75.specs.Opening as lm75
use Rattle.dev_lm75.specs.declared.chip.Chip.{Chip as Lm75Chip}
use Rattle.dev_lm75.specs.declared.chip.Lm75Opts.{Lm75Opts}
use Rattle.dev_lm75.specs.declared.held.Lm75.{Lm75}
use Rattle.dev_eeprom24.specs.Opening as eeprom
use Rattle.dev_eeprom24.specs.declared.chip.Chip.{Chip}
use Rattle.dev_eeprom24.specs.declared.chip.EepromOpts.{EepromOpts}
use Rattle.dev_eeprom24.specs.declared.held.Eeprom.{Eeprom}
use Rattle.i2c_phases.specs.declared.phased.Phased.{Phased}
use Rattle.la_base.specs.declared.samples.Rate.{Rate}
use Rattle.kind_table.specs.declared.kinds.Kind.{Kind}
use Rattle.kind_table.specs.declared.kinds.Kind.TheVariants as kind
use Rattle.decoder_set.specs.declared.any_machine.AnyMachine.{AnyMachine}
use Rattle.decoder_set.specs.declared.any_machine.AnyMachine.TheVariants as machine
use Rattle.decoder_set.specs.Options.{clock_options, eeprom_options, i2c_options, link_options}
use Rattle.decoder_set.specs.Options.{lm75_options, modbus_options, spi_options, uart_options}
use Rattle.decoder_core.specs.Inputs.{Item}
use Rattle.decoder_core.specs.Driving.{Drives, Sleeps}
use Rattle.decoder_core.specs.declared.driver.Driver.{Driver}
use Rattle.dec_i2c.specs.laws.Machine.{i2c_alts}
use Rattle.dec_i2c.specs.declared.held.Bus.{Bus}
use Rattle.dec_midi.specs.Opening as midi
use Rattle.dec_midi.specs.Opening.{MidiDecoder}
use Rattle.dec_midi.specs.declared.held.MidiOpts.{MidiOpts}
use Rattle.dec_modbus.specs.declared.line.Line.{Line as ModbusLine}
use Rattle.dec_uart.specs.declared.held.Line.{Line}
use Rattle.dec_onewire.specs.declared.link.held.Line.{Line as DqLine}
use Rattle.dec_onewire.specs.Opening.{NetDecoder}
use Rattle.dec_onewire.specs.declared.net.held.OwNetOpts.{OwNetOpts}
use Rattle.decoder_core.specs.Packets.{Follows, NoneCount}
use Rattle.dev_ds18b20.specs.Opening as probe
use Rattle.dev_ds18b20.specs.Opening.{ProbeDecoder}
use Rattle.dev_ds18b20.specs.declared.held.ProbeOpts.{ProbeOpts}
use Rattle.dev_flash25.specs.Opening as flash
use Rattle.dev_flash25.specs.Opening.{FlashDecoder}
use Rattle.dev_flash25.specs.declared.held.FlashOpts.{FlashOpts}
use Rattle.decoder_core.specs.declared.follower.Follower.{Follower}
use Rattle.la_base.specs.declared.wires.Packet.{Packet}
use Rattle.la_base.specs.declared.wires.Wire.{Wire}
use Rattle.la_base.specs.declared.wires.Wire.TheVariants as wire
use Rattle.wait_cond.specs.declared.alt.Alt.{Alt}

-- a machine of each kind has these options
abbrev pub IsI2c : I2cOpts → Bus → Type 0
IsI2c options bus = (bus.scl ≡ options.scl) × (bus.sda ≡ options.sda)

abbrev pub IsSpi : SpiOpts → SpiOpts → Type 0
IsSpi options own = own ≡ options

abbrev pub IsUart : UartOpts → Rate → Line → Type 0
IsUart options rate line = (line.opts ≡ options) × (line.rate ≡ rate)

abbrev pub IsLink : OwLinkOpts → Rate → DqLine → Type 0
IsLink options rate line = (line.opts ≡ options) × (line.rate ≡ rate)

abbrev pub IsEeprom : EepromOpts → Chip → Type 0
IsEeprom options chip = chip ≡ eeprom.chip_by options

abbrev pub IsClock : ClockOpts → ClockChip → Type 0
IsClock options chip = chip ≡ clock.chip_by options

abbrev pub IsLm75 : Lm75Opts → Lm75Chip → Type 0
IsLm75 options chip = chip ≡ lm75.chip_by options

abbrev pub IsModbus : ModbusOpts → Rate → ModbusLine → Type 0
IsModbus options rate line = (line.opts ≡ options) × (line.rate ≡ rate)

-- a machine without options has no others
abbrev pub IsAny : {D : Type 0} → D → Type 0
IsAny machine = Unit {0}

-- whether it has the options that values mean at a rate, which inputs it has consumed,
-- and after which of them no item of others is a stop
pub record MachineView : Type 1 where
  pub own : List (Option ℕ) → Rate → Type 0
  pub consumed : List Item → Type 0
  pub sleeps : List Item → List Item → Type 0

-- of a driver: by which samples its machine stands for, for what that waits, and what its
-- setup has to be
abbrev pub driven : {L S : Type 0} → (L → List ℕ → Type 0) → (L → List Alt)
    → (L → S) → (List (Option ℕ) → Rate → S → Type 0) → Driver L S → MachineView
driven stands alts setup own driver = record {
  own = λ values rate. own values rate (setup driver.machine);
  consumed = λ input. Drives stands alts driver.machine driver.waiter input;
  sleeps = λ input more. Sleeps alts driver.machine driver.waiter input more;
}

-- of a follower: by which packets its machine stands for, which wire it reads, and what
-- its setup has to be
abbrev pub followed : {D S : Type 0} → (D → List Packet → Type 0) → Wire → (D → S)
    → (List (Option ℕ) → Rate → S → Type 0) → Follower D S → MachineView
followed stands reads setup own follower = record {
  own = λ values rate. own values rate (setup follower.machine);
  consumed = λ input. Follows stands reads follower.machine follower.from input;
  sleeps = λ input more. NoneCount reads input more;
}

-- what an I2C machine waits for
abbrev pub i2c_alts_of : I2c → List Alt
i2c_alts_of machine = i2c_alts (i2c.bus_of machine).scl (i2c.bus_of machine).sda

-- what a machine of a kind holds
abbrev pub Inner : Kind → Type 0
Inner kind.I2c = Driver I2c Bus
Inner kind.Spi = Driver Spi SpiOpts
Inner kind.Uart = Driver Uart Line
Inner kind.OwLink = Driver OwLink DqLine
Inner kind.OwNet = Follower NetDecoder OwNetOpts
Inner kind.Eeprom24 = Follower (Phased Eeprom Chip) Chip
Inner kind.Ds1307 = Follower (Phased Clock ClockChip) ClockChip
Inner kind.Lm75 = Follower (Phased Lm75 Lm75Chip) Lm75Chip
Inner kind.Ds18b20 = Follower ProbeDecoder ProbeOpts
Inner kind.Flash25 = Follower FlashDecoder FlashOpts
Inner kind.Modbus = Follower ModbusDecoder ModbusLine
Inner kind.Midi = Follower MidiDecoder MidiOpts

-- a kind, and what a machine of it holds
abbrev pub Parts : Type 0
Parts = (kind : Kind) × Inner kind

abbrev pub parts_of : AnyMachine → Parts
parts_of (machine.I2c held) = (kind.I2c, held)
parts_of (machine.Spi held) = (kind.Spi, held)
parts_of (machine.Uart held) = (kind.Uart, held)
parts_of (machine.OwLink held) = (kind.OwLink, held)
parts_of (machine.OwNet held) = (kind.OwNet, held)
parts_of (machine.Eeprom24 held) = (kind.Eeprom24, held)
parts_of (machine.Ds1307 held) = (kind.Ds1307, held)
parts_of (machine.Lm75 held) = (kind.Lm75, held)
parts_of (machine.Ds18b20 held) = (kind.Ds18b20, held)
parts_of (machine.Flash25 held) = (kind.Flash25, held)
parts_of (machine.Modbus held) = (kind.Modbus, held)
parts_of (machine.Midi held) = (kind.Midi, held)

-- what is seen of a machine of each kind
abbrev pub view_in : (kind : Kind) → Inner kind → MachineView
view_in kind.I2c driver = driven i2c.StandsFor i2c_alts_of i2c.bus_of
    (λ values rate. IsI2c (i2c_options values)) driver
view_in kind.Spi driver = driven spi.StandsFor spi.alts_of spi.opts_of
    (λ values rate. IsSpi (spi_options values)) driver
view_in kind.Uart driver = driven uart.StandsFor uart.alts_of uart.line_of
    (λ values rate. IsUart (uart_options values) rate) driver
view_in kind.OwLink driver = driven onewire.StandsFor onewire.alts_of
    onewire.line_of (λ values rate. IsLink (link_options values) rate) driver
view_in kind.OwNet follower = followed onewire.NetStandsFor wire.OwLink
    (λ machine. machine.setup) (λ values rate. IsAny) follower
view_in kind.Eeprom24 follower = followed eeprom.StandsFor wire.I2c
    eeprom.chip_in (λ values rate. IsEeprom (eeprom_options values)) follower
view_in kind.Ds1307 follower = followed clock.StandsFor wire.I2c clock.chip_in
    (λ values rate. IsClock (clock_options values)) follower
view_in kind.Lm75 follower = followed lm75.StandsFor wire.I2c lm75.chip_in
    (λ values rate. IsLm75 (lm75_options values)) follower
view_in kind.Ds18b20 follower = followed probe.StandsFor wire.OwNet
    (λ machine. record {}) (λ values rate. IsAny) follower
view_in kind.Flash25 follower = followed flash.StandsFor wire.Spi
    (λ machine. record {}) (λ values rate. IsAny) follower
view_in kind.Modbus follower = followed modbus.StandsFor wire.Uart
    modbus.line_of (λ values rate. IsModbus (modbus_options values) rate) follower
view_in kind.Midi follower = followed midi.StandsFor wire.Uart
    (λ machine. machine.setup) (λ values rate. IsAny) follower

-- the kind of a machine, what it holds, and what is seen of it
abbrev pub kind_in : AnyMachine → Kind
kind_in machine = (parts_of machine).0

abbrev pub inner : (machine : AnyMachine) → Inner (kind_in machine)
inner machine = (parts_of machine).1

abbrev pub view_of : AnyMachine → MachineView
view_of machine = view_in (kind_in machine) (inner machine)
