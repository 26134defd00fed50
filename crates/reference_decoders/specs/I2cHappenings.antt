-- The events of the reference program of I2C, and those of the definition.
use Rattle.std.specs.Prelude.{ℕ, List, [], ◌∷◌, map, Option, Some, None, Vec}
use Rattle.std.specs.Global.{Global}
use Rattle.dec_i2c.specs.Bus.{Event as Happening, Start as Starts, Stop as Stops, Clock as Clocks}
use Rattle.dec_i2c.specs.Bus.{event_at}
use Rattle.dec_i2c.specs.declared.held.I2cOpts.{I2cOpts}
use Rattle.reference_decoders.specs.declared.i2c.Event.{Event}
use Rattle.reference_decoders.specs.declared.i2c.Event.TheVariants.{Start, Stop, Clock}

-- what an event of the program stands for
abbrev pub meant : Event → Happening
meant (Start k) = Starts k
meant (Stop k) = Stops k
meant (Clock k level) = Clocks k level

-- what stands for an event in the program
abbrev pub made : Happening → Event
made (Starts k) = Start k
made (Stops k) = Stop k
made (Clocks k level) = Clock k level

-- what happens at a sample, as the program has it
abbrev pub made_at : I2cOpts → ℕ → Option ℕ → ℕ → List Event
made_at opts k before now = map made (event_at opts.scl opts.sda k before now)

-- an event that may be none, as a list
abbrev pub listed : Option Event → List Event
listed None = []
listed (Some event) = event ∷ []

-- the parts, or bytes, that those of the program stand for
abbrev pub all_meant : List (Vec Event Global) → List (List Happening)
all_meant parts = map (λ part. map meant part.items) parts
