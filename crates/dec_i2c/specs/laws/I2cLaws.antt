-- I2C as a decoder by events, and the laws of its outputs.
use Rattle.std.proofs.Common.{◌≡◌, ℕ, List, length, Option, ◌∙◌, ap}
use Rattle.la_base.specs.declared.wires.Wire.TheVariants.{I2c}
use Rattle.list_cuts.specs.Parts.{parts}
use Rattle.sample_walks.specs.Walks.{walked, given}
use Rattle.sample_walks.specs.Events.{by_events}
use Rattle.sample_walks.specs.Outputs.{SampleOuts}
use Rattle.sample_walks.specs.laws.EventDecoders.{EventDecoder, promises_of}
use Rattle.sample_walks.specs.laws.EventWalks.{events_given, events_walked}
use Rattle.dec_i2c.specs.declared.held.Segment.{Segment}
use Rattle.dec_i2c.specs.Bus.{Event, events, events_outs, is_mark, i2c_outs, i2c_near}
use Rattle.dec_i2c.specs.laws.Machine.{held_after, near_by, i2c_walk}
use Rattle.dec_i2c.specs.laws.PushLaws.{near_is, i2c_pushed}
use Rattle.dec_i2c.specs.laws.SoundLaws.{i2c_fits, i2c_events}

module _ (scl sda : ℕ) where
  -- they are those of the walk, and the near place is where the walk says
  pub i2c_given : (list : List ℕ)
      → i2c_outs scl sda list ≡ given (by_events (i2c_walk scl sda)) list
  unfolding i2c_outs
  i2c_given list = events_given (i2c_walk scl sda) events_outs held_after (i2c_pushed scl sda) list

  pub near_walked : (list : List ℕ)
      → i2c_near scl sda list ≡ near_by (walked (by_events (i2c_walk scl sda)) list) (length list)
  unfolding i2c_near
  near_walked list =
      near_is (parts is_mark (events scl sda list)) (length list)
      ∙ ap (λ (h : Option Segment). near_by h (length list))
      (events_walked (i2c_walk scl sda) events_outs held_after (i2c_pushed scl sda) list)

  abbrev pub i2c_decoder : EventDecoder (Option Segment) Event
  i2c_decoder = record {
    walk = i2c_walk scl sda;
    fits = i2c_fits;
    sound = i2c_events scl sda;
    outs = i2c_outs scl sda;
    given_is = i2c_given;
    near = i2c_near scl sda;
    near_is = near_walked;
  }

  pub i2c_promises : SampleOuts I2c (i2c_outs scl sda)
  i2c_promises = promises_of i2c_decoder
