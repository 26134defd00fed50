-- What a wire carries of an input is all that a decoder reads of it.
use Rattle.std.proofs.Common.{◌≡◌, ℕ, ◌^◌, ◌&&◌, Bool, true, false, cond, if◌then◌else◌, List, [], ◌∷◌, take, Option, refl, sym, ◌∙◌, ap}
use Rattle.std.specs.Prelude.{nat_le}
use Rattle.la_base.specs.declared.samples.Rate.{Rate}
use Rattle.la_base.specs.Kinds.{same_wire, wire_of}
use Rattle.la_base.specs.declared.wires.Packet.{Packet}
use Rattle.la_base.specs.declared.wires.Wire.{Wire}
use Rattle.la_base.specs.declared.wires.Wire.TheVariants.{Logic}
use Rattle.la_base.specs.declared.wires.Wire.TheVariants as wire
use Rattle.decoder_core.specs.Packets.{counted_packets, counting, counts}
use Rattle.dec_onewire.specs.Link.{link_outs}
use Rattle.dec_onewire.specs.Net.{net_outs}
use Rattle.dev_ds18b20.specs.Probe.{probe_outs}
use Rattle.dev_ds1307.specs.Clock.{clock_outs}
use Rattle.dev_ds1307.specs.Opening as clock
use Rattle.dev_eeprom24.specs.Eeprom.{eeprom_outs}
use Rattle.dev_eeprom24.specs.Opening.{chip_by}
use Rattle.dev_flash25.specs.Flash.{flash_outs}
use Rattle.dev_lm75.specs.Thermometer.{lm75_outs}
use Rattle.dev_lm75.specs.Opening as lm75
use Rattle.dec_i2c.specs.Bus.{i2c_outs}
use Rattle.dec_midi.specs.Midi.{midi_outs}
use Rattle.dec_modbus.specs.Modbus.{gap_of, modbus_outs}
use Rattle.dec_spi.specs.Bus.{spi_outs}
use Rattle.dec_uart.specs.Frames.{uart_outs}
use Rattle.decoder_core.specs.Inputs.{Item, Sample, Pack, counted_samples, samples_in}
use Rattle.kind_table.specs.Kinds.{kind_row}
use Rattle.decoder_set.specs.Options.{clock_options, eeprom_options, i2c_options, link_options, lm75_options, modbus_options, spi_options, uart_options}
use Rattle.decoder_set.specs.Setups.{outs_by}
use Rattle.decoder_set.specs.Whole.{carried, carries}
use Rattle.kind_table.specs.declared.kinds.Kind.{Kind}
use Rattle.kind_table.specs.declared.kinds.Kind.TheVariants.{I2c, Spi, Uart, OwLink, OwNet, Eeprom24, Ds1307, Lm75, Ds18b20, Flash25, Modbus, Midi}

samples_carried : (input : List Item) → samples_in (carried Logic input) ≡ samples_in input
samples_carried [] = refl
samples_carried (Sample value ∷ input) = ap (λ (l : List ℕ). value ∷ l) (samples_carried input)
samples_carried (Pack packet ∷ input) = by (carries Logic (Pack packet)) (samples_carried input)
  where
    by : (b : Bool) → samples_in (carried Logic input) ≡ samples_in input → samples_in (cond b (Pack packet ∷ carried Logic input) (carried Logic input)) ≡ samples_in input
    by true same = same
    by false same = same

counted_carried : (input : List Item) → counted_samples (carried Logic input) ≡ counted_samples input
unfolding counted_samples
counted_carried input = ap (take (2 ^ 60)) (samples_carried input)

-- packets of another wire don't count
counting_carried : (own : Wire) (last : ℕ) (input : List Item) → counting own last (carried own input) ≡ counting own last input
counting_carried own last [] = refl
counting_carried own last (Sample value ∷ input) = by (carries own (Sample value)) (counting_carried own last input)
  where
    by : (b : Bool) → counting own last (carried own input) ≡ counting own last input → counting own last (cond b (Sample value ∷ carried own input) (carried own input)) ≡ counting own last input
    by true same = same
    by false same = same
counting_carried own last (Pack packet ∷ input) = by (same_wire (wire_of packet.kind) own) refl (counting_carried own packet.start input) (counting_carried own last input)
  where
    kept : (b : Bool) → counting own packet.start (carried own input) ≡ counting own packet.start input → counting own last (carried own input) ≡ counting own last input
        → (if b then packet ∷ counting own packet.start (carried own input) else counting own last (carried own input)) ≡ (if b then packet ∷ counting own packet.start input else counting own last input)
    kept true mine theirs = ap (λ (l : List Packet). packet ∷ l) mine
    kept false mine theirs = theirs

    by : (b : Bool) → same_wire (wire_of packet.kind) own ≡ b → counting own packet.start (carried own input) ≡ counting own packet.start input → counting own last (carried own input) ≡ counting own last input
        → counting own last (cond (same_wire (wire_of packet.kind) own) (Pack packet ∷ carried own input) (carried own input)) ≡ counting own last (Pack packet ∷ input)
    by true is mine theirs = ap (λ (b : Bool). counting own last (cond b (Pack packet ∷ carried own input) (carried own input))) is ∙ kept (counts own last packet) mine theirs
    by false is mine theirs =
        ap (λ (b : Bool). counting own last (cond b (Pack packet ∷ carried own input) (carried own input))) is
        ∙ theirs ∙ sym (ap (λ (b : Bool). if b && nat_le last packet.start then packet ∷ counting own packet.start input else counting own last input) is)

packets_carried : (own : Wire) (input : List Item) → counted_packets own (carried own input) ≡ counted_packets own input
unfolding counted_packets
packets_carried own input = counting_carried own 0 input

pub reads_its_wire : (kind : Kind) (values : List (Option ℕ)) (rate : Rate) (input : List Item) → outs_by kind values rate (carried (kind_row kind).input input) ≡ outs_by kind values rate input
reads_its_wire I2c values rate input = ap (i2c_outs (i2c_options values).scl (i2c_options values).sda) (counted_carried input)
reads_its_wire Spi values rate input = ap (spi_outs (spi_options values)) (counted_carried input)
reads_its_wire Uart values rate input = ap (uart_outs (uart_options values) rate) (counted_carried input)
reads_its_wire OwLink values rate input = ap (link_outs (link_options values) rate) (counted_carried input)
reads_its_wire OwNet values rate input = ap net_outs (packets_carried wire.OwLink input)
reads_its_wire Eeprom24 values rate input = ap (eeprom_outs (chip_by (eeprom_options values))) (packets_carried wire.I2c input)
reads_its_wire Ds1307 values rate input = ap (clock_outs (clock.chip_by (clock_options values))) (packets_carried wire.I2c input)
reads_its_wire Lm75 values rate input = ap (lm75_outs (lm75.chip_by (lm75_options values))) (packets_carried wire.I2c input)
reads_its_wire Ds18b20 values rate input = ap probe_outs (packets_carried wire.OwNet input)
reads_its_wire Flash25 values rate input = ap flash_outs (packets_carried wire.Spi input)
reads_its_wire Modbus values rate input = ap (modbus_outs (gap_of (modbus_options values) rate)) (packets_carried wire.Uart input)
reads_its_wire Midi values rate input = ap midi_outs (packets_carried wire.Uart input)
