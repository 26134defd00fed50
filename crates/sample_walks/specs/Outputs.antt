-- What all outputs of a decoder of samples promise.
use Rattle.std.specs.Prelude.{ℕ, List}
use Rattle.la_base.specs.declared.wires.Out.{Out}
use Rattle.la_base.specs.declared.wires.Wire.{Wire}
use Rattle.decoder_core.specs.Promises.{AddsFew, GivesNothing, GivesOn, KeepsFront, PacketsInOrder}

-- nothing, prefix, order and few, and packets of this wire alone
pub record SampleOuts (gives : Wire) (outs : List ℕ → List Out) : Type 0 where
  pub nothing : GivesNothing outs
  pub prefix : KeepsFront outs
  pub order : PacketsInOrder outs
  pub few : AddsFew outs
  pub on_wire : GivesOn gives outs
