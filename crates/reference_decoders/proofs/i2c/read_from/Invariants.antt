use Rattle.std.proofs.Common.{◌≡◌, take}
use Rattle.reference_decoders.specs.I2cHappenings.{all_meant}
use Rattle.list_cuts.specs.LastWhere.{last_that}
use Rattle.dec_i2c.specs.Bus.{bytes_in, segment_of, is_other}
use Rattle.reference_decoders.proofs.i2c.read_from.Given as goal

abbrev pub invariant-loop-part : goal.invariant-loop-part
invariant-loop-part l = l.last.items ≡ bytes_in (segment_of (last_that (is_other l.byte) (all_meant (take l.part-index l.earlier))))
