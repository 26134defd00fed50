-- Why a decoder can't be opened.
use Rattle.std.specs.Prelude.{ℕ, ◌≡◌, ◌*◌, Bool, false, not, nat_le, nat_lt, ◌&&◌, List, Option}
use Rattle.std.specs.Prelude.{Some, None, if◌then◌else◌}
use Rattle.la_base.specs.declared.samples.Rate.{Rate}
use Rattle.la_base.specs.declared.samples.TheConstants.{MOST_PINS}
use Rattle.decoder_core.specs.declared.faults.OptFault.{OptFault}
use Rattle.decoder_core.specs.declared.faults.OptFault.TheVariants.{Range}
use Rattle.decoder_core.specs.declared.faults.OptFault.TheVariants as fault
use Rattle.kind_table.specs.declared.kinds.Kind.{Kind}
use Rattle.kind_table.specs.declared.kinds.Kind.TheVariants.{I2c, Spi, Uart, OwLink, OwNet}
use Rattle.kind_table.specs.declared.kinds.Kind.TheVariants.{Eeprom24, Ds1307, Lm75, Ds18b20}
use Rattle.kind_table.specs.declared.kinds.Kind.TheVariants.{Flash25, Modbus, Midi}
use Rattle.decoder_set.specs.declared.setup.Setup.{Setup}
use Rattle.dec_onewire.specs.Link.{lengths_of}
use Rattle.dec_onewire.specs.declared.link.options.Lengths.{Lengths}
use Rattle.decoder_set.specs.Options.{link_options, uart_options}
use Rattle.kind_table.specs.Values.{in_range}

-- a 0 of 1-Wire has two samples and more, and a reset more than a 0
abbrev pub tells_apart : Lengths → Bool
tells_apart lengths = nat_le 2 lengths.bit && nat_lt lengths.bit lengths.reset

-- whether a rate is too low for the options of a kind: a serial line asks that its first bit is
-- read behind its first sample
abbrev pub too_slow : Kind → List (Option ℕ) → Rate → Bool
too_slow I2c values rate = false
too_slow Spi values rate = false
too_slow Uart values rate =
    nat_lt ((uart_options values).sp * rate.num) (100 * (uart_options values).baud * rate.den)
too_slow OwLink values rate = not (tells_apart (lengths_of (link_options values) rate))
too_slow OwNet values rate = false
too_slow Eeprom24 values rate = false
too_slow Ds1307 values rate = false
too_slow Lm75 values rate = false
too_slow Ds18b20 values rate = false
too_slow Flash25 values rate = false
too_slow Modbus values rate = false
too_slow Midi values rate = false

-- why a decoder can't be opened: Range where an option doesn't take its value, then Rate where the
-- rate is too low
abbrev pub open_fault : ℕ → Kind → List (Option ℕ) → Rate → Option OptFault
open_fault bits kind values rate = if not (in_range bits kind values) then Some Range
    else if too_slow kind values rate then Some fault.Rate
    else None

-- a setup that a decoder can be opened with
abbrev pub IsOpened : Setup → Type 0
IsOpened setup = open_fault MOST_PINS setup.kind setup.values.given setup.rate ≡ None
