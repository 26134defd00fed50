-- The events of the reference program of SPI, and those of the definition.
use Rattle.std.specs.Prelude.{ℕ, ◌<◌, List, [], ◌∷◌, map, Option, Some, None}
use Rattle.std.specs.Option.{ForSome}
use Rattle.list_cuts.specs.Parts.{Part}
use Rattle.dec_spi.specs.Bus.{Event as Happening, Select as Selects, Deselect as Deselects}
use Rattle.dec_spi.specs.Bus.{Clock as Clocks, event_at}
use Rattle.dec_spi.specs.declared.options.SpiOpts.{SpiOpts}
use Rattle.reference_decoders.specs.declared.spi.Event.{Event}
use Rattle.reference_decoders.specs.declared.spi.Event.TheVariants.{Select, Deselect, Clock}

-- what an event of the program stands for
abbrev pub meant : Event → Happening
meant (Select k) = Selects k
meant (Deselect k) = Deselects k
meant (Clock k mosi miso) = Clocks k mosi miso

-- what stands for an event in the program
abbrev pub made : Happening → Event
made (Selects k) = Select k
made (Deselects k) = Deselect k
made (Clocks k mosi miso) = Clock k mosi miso

-- what happens at a sample, as the program has it
abbrev pub made_at : SpiOpts → ℕ → Option ℕ → ℕ → List Event
made_at opts k before now = map made (event_at opts k before now)

-- an event that may be none, as a list
abbrev pub listed : Option Event → List Event
listed None = []
listed (Some event) = event ∷ []

abbrev pub meant_end : Option Event → Option Happening
meant_end None = None
meant_end (Some event) = Some (meant event)

-- the stretch that a part of the program's events stands for
abbrev pub meant_part : Part Event → Part Happening
meant_part part = record { items = map meant part.items; ended_by = meant_end part.ended_by }

-- each line is one of the `most` bits of a sample, where it is given
pub record LinesIn (most : ℕ) (opts : SpiOpts) : Type 0 where
  pub sck : opts.sck < most
  pub mosi : ForSome opts.mosi (λ line. line < most)
  pub miso : ForSome opts.miso (λ line. line < most)
  pub cs : ForSome opts.cs (λ line. line < most)
