-- The tree of decoders that reads a made capture.
use Rattle.std.specs.Prelude.{ℕ, ◌≡◌, List, [], ◌∷◌, map, codes, None, All}
use Rattle.decoder_set.specs.Opening.{HasConsumed, setup_of}
use Rattle.kind_table.specs.declared.kinds.Kind.TheVariants.{I2c, Uart}
use Rattle.stack_words.specs.Instances.{Channel, Instance, Number}
use Rattle.stack_spec.specs.declared.bound.Bound.{Bound}
use Rattle.make_job.specs.Making.{bus_setup, line_setup}

-- the names of the channels of a made capture
abbrev pub made_names : List (List ℕ)
made_names = codes "D0" ∷ codes "D1" ∷ codes "D2" ∷ []

-- the instances of its stack, as the words make them
abbrev pub made_instances : List Instance
made_instances =
    record {
      kind = I2c;
      number = 1;
      options =
          record { row = 0; value = Channel (codes "D0") }
          ∷ record { row = 1; value = Channel (codes "D1") } ∷ [];
      parent = None;
    }
    ∷ record {
      kind = Uart;
      number = 1;
      options =
          record { row = 0; value = Channel (codes "D2") }
          ∷ record { row = 1; value = Number 100000 } ∷ [];
      parent = None;
    }
    ∷ []

-- its two decoders, which read its samples, and have consumed nothing
pub record IsMadeTree (bound : Bound) : Type 0 where
  pub setups : map setup_of bound.machines.items ≡ bus_setup ∷ line_setup ∷ []
  pub parents : bound.parents.items ≡ None ∷ None ∷ []
  pub consumed : All (λ decoder. HasConsumed decoder []) bound.machines.items
