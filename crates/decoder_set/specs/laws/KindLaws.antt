-- The laws of what decoders give, for each setup that one can be opened with.
use Rattle.std.proofs.Common.{arith}
use Rattle.std.specs.Prelude.{ℕ, ◌≡◌, ◌<◌, List, Option, None}
use Rattle.la_base.specs.declared.samples.TheConstants.{MOST_PINS}
use Rattle.decoder_core.specs.laws.CountedLaws.{nothing_counted, front_counted, few_counted}
use Rattle.decoder_core.specs.laws.PacketLaws.{nothing_followed, front_followed, order_followed}
use Rattle.decoder_core.specs.laws.PacketLaws.{few_followed, wire_followed}
use Rattle.decoder_core.specs.Inputs.{Item, counted_samples}
use Rattle.decoder_core.specs.Packets.{counted_packets}
use Rattle.la_base.specs.declared.wires.Out.{Out}
use Rattle.la_base.specs.declared.wires.Packet.{Packet}
use Rattle.la_base.specs.declared.wires.Wire.{Wire}
use Rattle.decoder_core.specs.Promises.{GivesNothing, KeepsFront, PacketsInOrder, AddsFew, GivesOn}
use Rattle.sample_walks.specs.Outputs.{SampleOuts}
use Rattle.packet_walks.specs.Outputs.{PacketOuts}
use Rattle.dec_i2c.specs.laws.I2cLaws.{i2c_promises}
use Rattle.dec_midi.specs.laws.MidiLaws.{midi_promises}
use Rattle.dec_modbus.specs.Modbus.{gap_of}
use Rattle.dec_modbus.specs.laws.ModbusLaws.{modbus_promises}
use Rattle.dec_spi.specs.laws.SpiLaws.{spi_promises}
use Rattle.dec_uart.specs.laws.MachineLaws.{uart_promises}
use Rattle.dec_onewire.specs.laws.LinkLaws.{link_promises}
use Rattle.dec_onewire.specs.laws.NetLaws.{net_promises}
use Rattle.dev_ds18b20.specs.laws.ProbeLaws.{probe_promises}
use Rattle.dev_ds1307.specs.Opening as clock
use Rattle.dev_ds1307.specs.laws.GivenLaws.{clock_promises}
use Rattle.dev_flash25.specs.laws.FlashLaws.{flash_promises}
use Rattle.dev_lm75.specs.Opening as lm75
use Rattle.dev_lm75.specs.laws.GivenLaws.{lm75_promises}
use Rattle.dev_eeprom24.specs.Opening.{chip_by}
use Rattle.dev_eeprom24.specs.laws.EepromLaws.{eeprom_promises}
use Rattle.kind_table.specs.Kinds.{kind_row}
use Rattle.kind_table.specs.declared.kinds.Kind.{Kind}
use Rattle.kind_table.specs.declared.kinds.Kind.TheVariants.{I2c, Spi, Uart, OwLink, OwNet}
use Rattle.kind_table.specs.declared.kinds.Kind.TheVariants.{Eeprom24, Ds1307, Lm75, Ds18b20}
use Rattle.kind_table.specs.declared.kinds.Kind.TheVariants.{Flash25, Modbus, Midi}
use Rattle.decoder_set.specs.Faults.{IsOpened, open_fault}
use Rattle.decoder_set.specs.Options.{clock_options, eeprom_options, i2c_options, link_options}
use Rattle.decoder_set.specs.Options.{lm75_options, modbus_options, spi_options, uart_options}
use Rattle.decoder_set.specs.Setups.{outs_by, outs_of}
use Rattle.decoder_set.specs.declared.setup.Setup.{Setup}
use Rattle.decoder_set.specs.laws.FitLaws.{spi_fits, uart_fits}
use Rattle.la_base.specs.declared.samples.Rate.{Rate}

-- what outputs of any input promise, all on this wire
pub record Promises (gives : Wire) (outs : List Item → List Out) : Type 0 where
  pub nothing : GivesNothing outs
  pub prefix : KeepsFront outs
  pub order : PacketsInOrder outs
  pub few : AddsFew outs
  pub on_wire : GivesOn gives outs

-- of a decoder of samples, by what it promises of these
counted : {gives : Wire} {outs : List ℕ → List Out} → SampleOuts gives outs
    → Promises gives (λ input. outs (counted_samples input))
counted {outs = outs} own = record {
  nothing = nothing_counted outs own.nothing;
  prefix = front_counted outs own.prefix;
  order = λ input. own.order (counted_samples input);
  few = few_counted outs own.few;
  on_wire = λ input. own.on_wire (counted_samples input);
}

-- of a decoder of packets, by what it promises of those of its wire
followed : {wants gives : Wire} {outs : List Packet → List Out} → PacketOuts wants gives outs
    → Promises gives (λ input. outs (counted_packets wants input))
followed {wants} {gives} {outs} own = record {
  nothing = nothing_followed wants outs own.nothing;
  prefix = front_followed wants outs own.prefix;
  order = order_followed wants outs own.order;
  few = few_followed wants outs own.few;
  on_wire = wire_followed wants outs gives own.on_wire;
}

module _ (most : ℕ) (some : 0 < most) (values : List (Option ℕ)) (rate : Rate) where
  promises_by : (kind : Kind) → open_fault most kind values rate ≡ None
      → Promises (kind_row kind).output (outs_by kind values rate)
  promises_by I2c good = let o = i2c_options values in counted (i2c_promises o.scl o.sda)
  promises_by Spi good =
      let fits = spi_fits most values rate some good in
      counted (spi_promises (spi_options values) fits.bits.0 fits.bits.1)
  promises_by Uart good =
      let fits = uart_fits most values rate some good in
      counted (uart_promises (uart_options values) rate fits.0 fits.1)
  promises_by OwLink good = counted (link_promises (link_options values) rate)
  promises_by OwNet good = followed net_promises
  promises_by Eeprom24 good = followed (eeprom_promises (chip_by (eeprom_options values)))
  promises_by Ds1307 good = followed (clock_promises (clock.chip_by (clock_options values)))
  promises_by Lm75 good = followed (lm75_promises (lm75.chip_by (lm75_options values)))
  promises_by Ds18b20 good = followed probe_promises
  promises_by Flash25 good = followed flash_promises
  promises_by Modbus good = followed (modbus_promises (gap_of (modbus_options values) rate))
  promises_by Midi good = followed midi_promises

-- what a decoder of a setup that one can be opened with promises
pub promises_of : (setup : Setup) → IsOpened setup
    → Promises (kind_row setup.kind).output (outs_of setup)
promises_of setup =
    promises_by MOST_PINS (omega arith) setup.values.given setup.rate setup.kind
