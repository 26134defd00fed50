use Rattle.std.proofs.Common.{◌≡◌, take}
use Rattle.reference_decoders.specs.I2cHappenings.{all_meant}
use Rattle.dec_i2c.specs.Bus.{values_of}
use Rattle.reference_decoders.proofs.i2c.values_of.Given as goal

abbrev pub invariant-loop-byte : goal.invariant-loop-byte
invariant-loop-byte l = l.values.items ≡ values_of (all_meant (take l.byte-index l.bytes))
