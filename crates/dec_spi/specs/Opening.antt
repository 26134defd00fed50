-- What an SPI decoder stands for, and how it is opened.
use Rattle.std.specs.Prelude.{ℕ, ◌≡◌, ◌<◌, ◌≤◌, ◌⊎◌, true, List, [], Result, Ok, Err, is_some}
use Rattle.std.specs.Option.{ForSome}
use Rattle.decoder_core.specs.declared.faults.OptFault.{OptFault}
use Rattle.decoder_core.specs.declared.faults.OptFault.TheVariants.{Range}
use Rattle.wait_cond.specs.declared.alt.Alt.{Alt}
use Rattle.dec_spi.specs.declared.held.Spi.{Spi}
use Rattle.dec_spi.specs.declared.options.SpiOpts.{SpiOpts}
use Rattle.dec_spi.specs.laws.Machine.{EndsAtEvent, held_at, spi_alts}

-- the options of a decoder, and what it waits for
abbrev pub opts_of : Spi → SpiOpts
opts_of machine = machine.bus.opts

abbrev pub alts_of : Spi → List Alt
alts_of machine = spi_alts machine.bus.opts machine.held

-- a decoder stands for samples that end with an event, or for none: it keeps what they leave to
-- keep
abbrev pub StandsFor : Spi → List ℕ → Type 0
StandsFor machine list =
    EndsAtEvent machine.bus.opts list × (machine.held ≡ held_at machine.bus.opts list)

-- each option is in its range, where a sample has `most` bits, and a data line is given
pub record InRange (most : ℕ) (opts : SpiOpts) : Type 0 where
  pub sck : opts.sck < most
  pub mosi : ForSome opts.mosi (λ line. line < most)
  pub miso : ForSome opts.miso (λ line. line < most)
  pub cs : ForSome opts.cs (λ line. line < most)
  pub polarity : opts.cpol ≤ 1
  pub phase : opts.cpha ≤ 1
  pub bits : (1 ≤ opts.bits) × (opts.bits ≤ 32)
  pub mode : opts.mode ≤ 3
  pub some : (is_some opts.mosi ≡ true) ⊎ (is_some opts.miso ≡ true)

-- a decoder with these options that stands for no samples, or Range exactly where one is out of
-- range or no data line is given
abbrev pub Opens : ℕ → SpiOpts → Result Spi OptFault → Type 0
Opens most opts (Ok machine) = InRange most opts × (opts_of machine ≡ opts) × StandsFor machine []
Opens most opts (Err fault) = (fault ≡ Range) × (¬ InRange most opts)
