use Rattle.std.proofs.Common.{◌≡◌, ◌++◌, take}
use Rattle.reference_decoders.specs.I2cHappenings.{all_meant}
use Rattle.list_cuts.specs.Along.{along}
use Rattle.dec_i2c.specs.Bus.{group_outs, read_from}
use Rattle.reference_decoders.proofs.i2c.add_clocks.Given as goal

abbrev pub invariant-loop-place : goal.invariant-loop-place
invariant-loop-place l = l.outs.items ≡ l.initial.outs.items ++ along (group_outs (read_from (all_meant l.earlier))) (all_meant (take l.place l.list))
