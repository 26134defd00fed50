-- What a decoder of each kind gives, by its setup.
use Rattle.std.specs.Prelude.{ℕ, List, Option, max}
use Rattle.la_base.specs.declared.samples.Rate.{Rate}
use Rattle.la_base.specs.declared.wires.Out.{Out}
use Rattle.la_base.specs.declared.wires.Packet.{Packet}
use Rattle.la_base.specs.declared.wires.Wire.{Wire}
use Rattle.decoder_core.specs.Inputs.{Item, counted_samples}
use Rattle.dec_i2c.specs.Bus.{i2c_outs, i2c_near}
use Rattle.dec_midi.specs.Midi.{midi_near, midi_outs}
use Rattle.dec_modbus.specs.Modbus.{gap_of, modbus_near, modbus_outs}
use Rattle.dec_spi.specs.Bus.{spi_outs, spi_near}
use Rattle.dec_uart.specs.Frames.{uart_outs, uart_near}
use Rattle.dec_onewire.specs.Link.{link_outs, link_near}
use Rattle.dec_onewire.specs.Net.{net_outs, net_near}
use Rattle.decoder_core.specs.Packets.{counted_packets, last_start}
use Rattle.dev_ds18b20.specs.Probe.{probe_near, probe_outs}
use Rattle.dev_ds1307.specs.Clock.{clock_outs}
use Rattle.dev_ds1307.specs.Opening as clock
use Rattle.dev_eeprom24.specs.Eeprom.{eeprom_outs}
use Rattle.dev_eeprom24.specs.Opening.{chip_by}
use Rattle.dev_flash25.specs.Flash.{flash_near, flash_outs}
use Rattle.dev_lm75.specs.Thermometer.{lm75_outs}
use Rattle.dev_lm75.specs.Opening as lm75
use Rattle.i2c_phases.specs.Phases.{phase_near}
use Rattle.la_base.specs.declared.wires.Wire.TheVariants as wire
use Rattle.kind_table.specs.declared.kinds.Kind.{Kind}
use Rattle.kind_table.specs.declared.kinds.Kind.TheVariants.{I2c, Spi, Uart, OwLink, OwNet}
use Rattle.kind_table.specs.declared.kinds.Kind.TheVariants.{Eeprom24, Ds1307, Lm75, Ds18b20}
use Rattle.kind_table.specs.declared.kinds.Kind.TheVariants.{Flash25, Modbus, Midi}
use Rattle.decoder_set.specs.declared.setup.Setup.{Setup}
use Rattle.decoder_set.specs.Options.{clock_options, eeprom_options, i2c_options, link_options}
use Rattle.decoder_set.specs.Options.{lm75_options, modbus_options, spi_options, uart_options}

-- what a kind gives with these values at a rate on a whole input
abbrev pub outs_by : Kind → List (Option ℕ) → Rate → List Item → List Out
outs_by I2c values rate input =
    i2c_outs (i2c_options values).scl (i2c_options values).sda (counted_samples input)
outs_by Spi values rate input = spi_outs (spi_options values) (counted_samples input)
outs_by Uart values rate input = uart_outs (uart_options values) rate (counted_samples input)
outs_by OwLink values rate input = link_outs (link_options values) rate (counted_samples input)
outs_by OwNet values rate input = net_outs (counted_packets wire.OwLink input)
outs_by Eeprom24 values rate input =
    eeprom_outs (chip_by (eeprom_options values)) (counted_packets wire.I2c input)
outs_by Ds1307 values rate input =
    clock_outs (clock.chip_by (clock_options values)) (counted_packets wire.I2c input)
outs_by Lm75 values rate input =
    lm75_outs (lm75.chip_by (lm75_options values)) (counted_packets wire.I2c input)
outs_by Ds18b20 values rate input = probe_outs (counted_packets wire.OwNet input)
outs_by Flash25 values rate input = flash_outs (counted_packets wire.Spi input)
outs_by Modbus values rate input =
    modbus_outs (gap_of (modbus_options values) rate) (counted_packets wire.Uart input)
outs_by Midi values rate input = midi_outs (counted_packets wire.Uart input)

-- all outputs of a decoder of this setup on a whole input
abbrev pub outs_of : Setup → List Item → List Out
outs_of setup input = outs_by setup.kind setup.values.given setup.rate input

-- what is asked of a decoder of packets: those that count, and the place from which on all that
-- come start, where each starts at `above` or later
abbrev pub near_behind : (List Packet → ℕ → ℕ) → Wire → List Item → ℕ → ℕ
near_behind near wants input above =
    near (counted_packets wants input) (max (last_start 0 (counted_packets wants input)) above)

-- where what has begun and isn't given yet starts, for a kind with these values at a rate
abbrev pub near_by : Kind → List (Option ℕ) → Rate → List Item → ℕ → ℕ
near_by I2c values rate input above =
    i2c_near (i2c_options values).scl (i2c_options values).sda (counted_samples input)
near_by Spi values rate input above = spi_near (spi_options values) (counted_samples input)
near_by Uart values rate input above = uart_near (uart_options values) rate (counted_samples input)
near_by OwLink values rate input above = link_near (link_options values) (counted_samples input)
near_by OwNet values rate input above = near_behind net_near wire.OwLink input above
near_by Eeprom24 values rate input above = near_behind phase_near wire.I2c input above
near_by Ds1307 values rate input above = near_behind phase_near wire.I2c input above
near_by Lm75 values rate input above = near_behind phase_near wire.I2c input above
near_by Ds18b20 values rate input above = near_behind probe_near wire.OwNet input above
near_by Flash25 values rate input above = near_behind flash_near wire.Spi input above
near_by Modbus values rate input above =
    near_behind (modbus_near (gap_of (modbus_options values) rate)) wire.Uart input above
near_by Midi values rate input above = near_behind midi_near wire.Uart input above

-- where what has begun in this input and isn't given yet starts, where each packet that comes
-- starts at `above` or later
abbrev pub near_of : Setup → List Item → ℕ → ℕ
near_of setup input above = near_by setup.kind setup.values.given setup.rate input above
