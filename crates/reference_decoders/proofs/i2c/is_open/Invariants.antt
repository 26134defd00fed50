use Rattle.std.proofs.Common.{◌≡◌, take, is_some}
use Rattle.reference_decoders.specs.I2cHappenings.{all_meant}
use Rattle.dec_i2c.specs.Bus.{open_segment}
use Rattle.reference_decoders.proofs.i2c.is_open.Given as goal

abbrev pub invariant-loop-part : goal.invariant-loop-part
invariant-loop-part l = l.open ≡ is_some (open_segment (all_meant (take l.part-index l.earlier)))
