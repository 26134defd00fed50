-- Two decoders of one setup that have consumed one input hold the same.
use Rattle.std.proofs.Common.{◌≡◌, ℕ, ◌+◌, List, Option, refl, sym, ◌∙◌, subst}
use Rattle.la_base.specs.declared.samples.Rate.{Rate}
use Rattle.decoder_core.specs.Inputs.{Item}
use Rattle.decoder_core.specs.laws.OneDriver.{one_state}
use Rattle.dec_i2c.specs.laws.MachineLaws.{one_i2c, i2c_one_stop}
use Rattle.dec_i2c.specs.Opening as i2c
use Rattle.dec_midi.specs.laws.MidiLaws.{one_midi}
use Rattle.dec_modbus.specs.laws.ModbusLaws.{one_modbus, same_line as same_modbus}
use Rattle.dec_onewire.specs.Opening as onewire
use Rattle.dec_onewire.specs.laws.LinkMachineLaws.{one_link, link_one_stop}
use Rattle.dec_onewire.specs.laws.NetLaws.{one_net}
use Rattle.dec_spi.specs.Opening as spi
use Rattle.dec_spi.specs.laws.MachineLaws.{one_spi, spi_one_stop}
use Rattle.dec_uart.specs.Opening as uart
use Rattle.dec_uart.specs.laws.MachineLaws.{one_uart, uart_one_stop}
use Rattle.decoder_core.specs.Packets.{counted_packets}
use Rattle.dev_ds18b20.specs.laws.ProbeLaws.{one_probe}
use Rattle.dev_ds1307.specs.laws.Held as clock_held
use Rattle.dev_ds1307.specs.laws.KnowingLaws as clock_laws
use Rattle.dev_eeprom24.specs.laws.Held as eeprom_held
use Rattle.dev_eeprom24.specs.laws.KnowingLaws as eeprom_laws
use Rattle.dev_flash25.specs.laws.FlashLaws.{one_flash}
use Rattle.dev_lm75.specs.laws.Held as lm75_held
use Rattle.dev_lm75.specs.laws.KnowingLaws as lm75_laws
use Rattle.i2c_phases.specs.laws.OneLaw.{one_phased}
use Rattle.la_base.specs.declared.wires.Wire.TheVariants as wire
use Rattle.dev_ds1307.specs.declared.chip.Chip.{Chip as ClockChip}
use Rattle.dev_lm75.specs.declared.chip.Chip.{Chip as Lm75Chip}
use Rattle.dev_eeprom24.specs.declared.chip.Chip.{Chip}
use Rattle.kind_table.specs.declared.kinds.Kind.{Kind}
use Rattle.kind_table.specs.declared.kinds.Kind.TheVariants as kind
use Rattle.decoder_set.specs.declared.any.AnyDecoder.{AnyDecoder}
use Rattle.decoder_set.specs.declared.any_machine.AnyMachine.{AnyMachine}
use Rattle.decoder_set.specs.declared.setup.Setup.{Setup}
use Rattle.decoder_set.specs.Opening.{Consumed, ConsumedIn, HasConsumed, setup_of}
use Rattle.decoder_set.specs.Views.{Inner, Parts, i2c_alts_of, inner, kind_in, parts_of}
use Rattle.decoder_set.specs.laws.MemberLaws.{same_bus, same_dq, same_line}
use Rattle.decoder_set.specs.Whole.{SameDecoder, SameInner, SameMachine}

-- a machine of this kind holds something of it
pub of_kind : (k : Kind) (machine : AnyMachine) → k ≡ kind_in machine
    → (held : Inner k) × (parts_of machine ≡ (k, held))
of_kind k machine is =
    subst (λ (j : Kind). (held : Inner j) × (parts_of machine ≡ (j, held))) (sym is)
    (inner machine, refl)

module _ (values : List (Option ℕ)) (rate : Rate) (input : List Item) where
  same_in : (k : Kind) (one other : Inner k) → ConsumedIn values rate (k, one) input
      → ConsumedIn values rate (k, other) input → SameInner k one other
  same_in kind.I2c one other d e =
      one_state i2c.bus_of i2c.StandsFor i2c_alts_of
      (λ one other list same stands also. one_i2c one other list same stands also)
      (λ one other seen more same stands also rests. i2c_one_stop one other seen more same stands also rests)
      one.machine other.machine one.waiter other.waiter input
      (same_bus _ _ (d.own.0 ∙ sym e.own.0) (d.own.1 ∙ sym e.own.1)) d.consumed e.consumed
  same_in kind.Spi one other d e =
      one_state spi.opts_of spi.StandsFor spi.alts_of
      (λ one other list same stands also. one_spi one other list same stands also)
      (λ one other seen more same stands also rests. spi_one_stop one other seen more same stands also rests)
      one.machine other.machine one.waiter other.waiter input (d.own ∙ sym e.own) d.consumed
      e.consumed
  same_in kind.Uart one other d e =
      one_state uart.line_of uart.StandsFor uart.alts_of
      (λ one other list same stands also. one_uart one other list same stands also)
      (λ one other seen more same stands also rests. uart_one_stop one other seen more same stands also rests)
      one.machine other.machine one.waiter other.waiter input
      (same_line _ _ (d.own.0 ∙ sym e.own.0) (d.own.1 ∙ sym e.own.1)) d.consumed e.consumed
  same_in kind.OwLink one other d e =
      one_state onewire.line_of onewire.StandsFor onewire.alts_of
      (λ one other list same stands also. one_link one other list same stands also)
      (λ one other seen more same stands also rests. link_one_stop one other seen more same stands also rests)
      one.machine other.machine one.waiter other.waiter input
      (same_dq _ _ (d.own.0 ∙ sym e.own.0) (d.own.1 ∙ sym e.own.1)) d.consumed e.consumed
  same_in kind.OwNet one other d e = (
    one_net one.machine other.machine (counted_packets wire.OwLink input)
        d.consumed.machine_stands e.consumed.machine_stands,
    d.consumed.last_is ∙ sym e.consumed.last_is,
  )
  same_in kind.Eeprom24 one other d e = (
    one_phased eeprom_laws.chip_of (λ (chip : Chip). 80 + chip.addr)
        (λ (chip : Chip). chip.resets) eeprom_held.Knows eeprom_laws.one_eeprom one.machine
        other.machine (counted_packets wire.I2c input) (d.own ∙ sym e.own) d.consumed.machine_stands
        e.consumed.machine_stands,
    d.consumed.last_is ∙ sym e.consumed.last_is,
  )
  same_in kind.Ds1307 one other d e = (
    one_phased clock_laws.chip_of (λ (chip : ClockChip). 104) (λ (chip : ClockChip). chip.resets)
        clock_held.Knows clock_laws.one_clock one.machine other.machine
        (counted_packets wire.I2c input) (d.own ∙ sym e.own) d.consumed.machine_stands
        e.consumed.machine_stands,
    d.consumed.last_is ∙ sym e.consumed.last_is,
  )
  same_in kind.Lm75 one other d e = (
    one_phased lm75_laws.chip_of (λ (chip : Lm75Chip). 72 + chip.addr)
        (λ (chip : Lm75Chip). chip.resets) lm75_held.Knows lm75_laws.one_lm75 one.machine
        other.machine (counted_packets wire.I2c input) (d.own ∙ sym e.own) d.consumed.machine_stands
        e.consumed.machine_stands,
    d.consumed.last_is ∙ sym e.consumed.last_is,
  )
  same_in kind.Ds18b20 one other d e = (
    one_probe one.machine other.machine (counted_packets wire.OwNet input)
        d.consumed.machine_stands e.consumed.machine_stands,
    d.consumed.last_is ∙ sym e.consumed.last_is,
  )
  same_in kind.Flash25 one other d e = (
    one_flash one.machine other.machine (counted_packets wire.Spi input) d.consumed.machine_stands
        e.consumed.machine_stands,
    d.consumed.last_is ∙ sym e.consumed.last_is,
  )
  same_in kind.Modbus one other d e = (
    one_modbus one.machine other.machine (counted_packets wire.Uart input)
        (same_modbus _ _ (d.own.0 ∙ sym e.own.0) (d.own.1 ∙ sym e.own.1)) d.consumed.machine_stands
        e.consumed.machine_stands,
    d.consumed.last_is ∙ sym e.consumed.last_is,
  )
  same_in kind.Midi one other d e = (
    one_midi one.machine other.machine (counted_packets wire.Uart input) d.consumed.machine_stands
        e.consumed.machine_stands,
    d.consumed.last_is ∙ sym e.consumed.last_is,
  )

  same_machine : (one other : AnyMachine) → kind_in one ≡ kind_in other
      → ConsumedIn values rate (parts_of one) input
      → ConsumedIn values rate (parts_of other) input → SameMachine one other
  same_machine one other same d e =
      let a = of_kind (kind_in one) other same in (
        a.0,
        a.1,
        same_in (kind_in one) (inner one) a.0 d
            (subst (λ (p : Parts). ConsumedIn values rate p input) a.1 e),
      )

pub same_decoder : (one other : AnyDecoder) (input : List Item) → setup_of one ≡ setup_of other
    → HasConsumed one input → HasConsumed other input → SameDecoder one other
same_decoder one other input same d e =
    let f : Consumed one.setup.kind one.setup.values.given one.setup.rate other.machine input =
    subst (λ (s : Setup). Consumed s.kind s.values.given s.rate other.machine input) (sym same) e in
    record {
      setup = same;
      machine = same_machine one.setup.values.given one.setup.rate input one.machine other.machine
          (sym d.0 ∙ f.0) d.1 f.1;
    }
