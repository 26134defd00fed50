-- Values that a decoder can be opened with fit its kind.
use Rattle.std.proofs.Common.{◌≡◌, ℕ, ◌+◌, ◌*◌, ◌≤◌, ◌<◌, ◌⊎◌, inl, inr, ◌&&◌, ◌||◌, Bool, true}
use Rattle.std.proofs.Common.{false, not, if◌then◌else◌, List, Option, Some, None, is_some}
use Rattle.std.proofs.Common.{refl, subst, arith, nat_lt}
use Rattle.std.specs.Prelude.{codes, IfSome}
use Rattle.std.specs.Option.{ForSome}
use Rattle.std.proofs.lemmas.Bool.Decides.{nat_tests}
use Rattle.la_base.specs.declared.samples.Rate.{Rate}
use Rattle.decoder_core.specs.declared.faults.OptFault.TheVariants.{Range}
use Rattle.decoder_core.specs.declared.faults.OptFault.TheVariants as fault
use Rattle.dec_modbus.specs.Opening as modbus
use Rattle.dec_onewire.specs.Opening as onewire
use Rattle.dec_spi.specs.Opening as spi
use Rattle.dec_uart.specs.Ranges as uart
use Rattle.dev_ds1307.specs.Opening as clock
use Rattle.dev_eeprom24.specs.Opening as eeprom
use Rattle.dev_lm75.specs.Opening as lm75
use Rattle.kind_table.specs.declared.kinds.Kind.{Kind}
use Rattle.kind_table.specs.declared.kinds.Kind.TheVariants.{Spi, Uart, OwLink, Eeprom24, Ds1307}
use Rattle.kind_table.specs.declared.kinds.Kind.TheVariants.{Lm75, Modbus}
use Rattle.kind_table.specs.Kinds.{Pin, Number, Choice, eeprom_pages, eeprom_sizes, kind_row}
use Rattle.kind_table.specs.Kinds.{parities, spi_modes}
use Rattle.decoder_set.specs.Faults.{open_fault, too_slow}
use Rattle.decoder_set.specs.Options.{clock_options, eeprom_options, link_options, lm75_options}
use Rattle.decoder_set.specs.Options.{modbus_options, spi_options, uart_options}
use Rattle.kind_table.specs.Values.{given_at, in_range, maybe_channel_at}
use Rattle.kind_table.specs.laws.RangeLaws.{channel_within, maybe_channel_within}
use Rattle.kind_table.specs.laws.RangeLaws.{number_within, range_parts}

-- where there is no fault, all options are in range and the rate is high enough
pub no_fault : (bits : ℕ) (kind : Kind) (values : List (Option ℕ)) (rate : Rate)
    → open_fault bits kind values rate ≡ None
    → (in_range bits kind values ≡ true) × (too_slow kind values rate ≡ false)
no_fault bits kind values rate e = by (in_range bits kind values) (too_slow kind values rate) e
  where
    by : (a b : Bool) → (if not a then Some Range else if b then Some fault.Rate else None) ≡ None
        → (a ≡ true) × (b ≡ false)
    by true false e = (refl, refl)
    by true true e = cc
    by false b e = cc

for_some : (line : Option ℕ) (most : ℕ) → IfSome line (λ bit. bit < most)
    → ForSome line (λ bit. bit < most)
for_some None most within = λ bit is. cc
for_some (Some own) most within =
    λ bit is. let same : own ≡ bit = cc in subst (λ (n : ℕ). n < most) same within

below_suc : (n most : ℕ) → n < most + 1 → n ≤ most
below_suc n most below = omega arith

-- of one group of two one is given
one_given : (a b : Bool) → ((a || (b || false)) && true) ≡ true → (a ≡ true) ⊎ (b ≡ true)
one_given true b e = inl refl
one_given false true e = inr refl
one_given false false e = cc

pub spi_in_range : (bits : ℕ) (values : List (Option ℕ)) → 0 < bits
    → in_range bits Spi values ≡ true → spi.InRange bits (spi_options values)
spi_in_range bits values some all =
    let row = kind_row Spi in
    let groups = (range_parts bits row values all).1 in
    record {
      sck = channel_within bits row values 0 (record { name = codes "sck"; form = Pin true })
          all refl true refl some;
      mosi = for_some (maybe_channel_at values 1) bits (maybe_channel_within bits row values 1
          (record { name = codes "mosi"; form = Pin false }) all refl false refl);
      miso = for_some (maybe_channel_at values 2) bits (maybe_channel_within bits row values 2
          (record { name = codes "miso"; form = Pin false }) all refl false refl);
      cs = for_some (maybe_channel_at values 3) bits (maybe_channel_within bits row values 3
          (record { name = codes "cs"; form = Pin false }) all refl false refl);
      polarity = (number_within bits row values 4
          (record { name = codes "cpol"; form = Number 0 1 0 }) all refl refl).1;
      phase = (number_within bits row values 5 (record { name = codes "cpha"; form = Number 0 1 0 })
          all refl refl).1;
      bits = number_within bits row values 6 (record { name = codes "bits"; form = Number 1 32 8 })
          all refl refl;
      mode = below_suc _ 3 (number_within bits row values 7
          (record { name = codes "mode"; form = Choice spi_modes }) all refl refl);
      some = one_given (is_some (given_at values 1)) (is_some (given_at values 2)) groups;
    }

pub uart_in_range : (bits : ℕ) (values : List (Option ℕ)) → 0 < bits
    → in_range bits Uart values ≡ true → uart.InRange bits (uart_options values)
uart_in_range bits values some all =
    let row = kind_row Uart in
    record {
      rx = channel_within bits row values 0 (record { name = codes "rx"; form = Pin true })
          all refl true refl some;
      baud = number_within bits row values 1
          (record { name = codes "baud"; form = Number 1 10000000 9600 }) all refl refl;
      bits = number_within bits row values 2 (record { name = codes "bits"; form = Number 5 9 8 })
          all refl refl;
      parity = below_suc _ 4 (number_within bits row values 3
          (record { name = codes "parity"; form = Choice parities }) all refl refl);
      stop = number_within bits row values 4 (record { name = codes "stop"; form = Number 1 2 1 })
          all refl refl;
      sp = number_within bits row values 5 (record { name = codes "sp"; form = Number 1 99 50 })
          all refl refl;
    }

pub eeprom_in_range : (bits : ℕ) (values : List (Option ℕ)) → in_range bits Eeprom24 values ≡ true
    → eeprom.InRange (eeprom_options values)
eeprom_in_range bits values all =
    let row = kind_row Eeprom24 in
    record {
      addr = (number_within bits row values 0 (record { name = codes "addr"; form = Number 0 7 0 })
          all refl refl).1;
      size = below_suc _ 6 (number_within bits row values 1
          (record { name = codes "size"; form = Choice eeprom_sizes }) all refl refl);
      page = below_suc _ 4 (number_within bits row values 2
          (record { name = codes "page"; form = Choice eeprom_pages }) all refl refl);
      gcall = (number_within bits row values 3
          (record { name = codes "gcall"; form = Number 0 1 0 }) all refl refl).1;
    }

pub clock_in_range : (bits : ℕ) (values : List (Option ℕ)) → in_range bits Ds1307 values ≡ true
    → clock.InRange (clock_options values)
clock_in_range bits values all = record {
  gcall = (number_within bits (kind_row Ds1307) values 0
      (record { name = codes "gcall"; form = Number 0 1 0 }) all refl refl).1;
}

pub lm75_in_range : (bits : ℕ) (values : List (Option ℕ)) → in_range bits Lm75 values ≡ true
    → lm75.InRange (lm75_options values)
lm75_in_range bits values all =
    let row = kind_row Lm75 in
    record {
      addr = (number_within bits row values 0 (record { name = codes "addr"; form = Number 0 7 0 })
          all refl refl).1;
      gcall = (number_within bits row values 1
          (record { name = codes "gcall"; form = Number 0 1 0 }) all refl refl).1;
    }

pub modbus_in_range : (bits : ℕ) (values : List (Option ℕ)) → in_range bits Modbus values ≡ true
    → modbus.InRange (modbus_options values)
modbus_in_range bits values all = number_within bits (kind_row Modbus) values 0
    (record { name = codes "gap"; form = Number 1 1000000000 4000000 }) all refl refl

pub link_in_range : (bits : ℕ) (values : List (Option ℕ)) → 0 < bits
    → in_range bits OwLink values ≡ true → onewire.LinkInRange bits (link_options values)
link_in_range bits values some all =
    let row = kind_row OwLink in
    record {
      dq = channel_within bits row values 0 (record { name = codes "dq"; form = Pin true })
          all refl true refl some;
      reset = number_within bits row values 1
          (record { name = codes "reset"; form = Number 1 1000000000 480000 }) all refl refl;
      window = number_within bits row values 2
          (record { name = codes "window"; form = Number 1 1000000000 100000 }) all refl refl;
      bit = number_within bits row values 3
          (record { name = codes "bit"; form = Number 1 1000000000 20000 }) all refl refl;
    }

-- what an SPI bus and a serial line that can be opened fit
pub spi_fits : (bits : ℕ) (values : List (Option ℕ)) (rate : Rate) → 0 < bits
    → open_fault bits Spi values rate ≡ None → spi.InRange bits (spi_options values)
spi_fits bits values rate some good =
    spi_in_range bits values some (no_fault bits Spi values rate good).0

pub fast_enough : (values : List (Option ℕ)) (rate : Rate) → too_slow Uart values rate ≡ false
    → uart.FastEnough (uart_options values) rate
fast_enough values rate e =
    let o = uart_options values in
    not_below (o.sp * rate.num) (100 * o.baud * rate.den) e
  where
    not_below : (a b : ℕ) → nat_lt a b ≡ false → b ≤ a
    not_below a b e = grind (arith, nat_tests)

pub uart_fits : (bits : ℕ) (values : List (Option ℕ)) (rate : Rate) → 0 < bits
    → open_fault bits Uart values rate ≡ None
    → uart.InRange bits (uart_options values) × uart.FastEnough (uart_options values) rate
uart_fits bits values rate some good =
    let parts = no_fault bits Uart values rate good in
    (uart_in_range bits values some parts.0, fast_enough values rate parts.1)
