use Rattle.std.proofs.Common.{◌≡◌, take}
use Rattle.reference_decoders.specs.I2cHappenings.{all_meant}
use Rattle.list_cuts.specs.Along.{along}
use Rattle.dec_i2c.specs.Bus.{part_outs}
use Rattle.reference_decoders.proofs.i2c.outputs_of.Given as goal

abbrev pub invariant-loop-place : goal.invariant-loop-place
invariant-loop-place l = l.outs.items ≡ along part_outs (all_meant (take l.place l.list))
