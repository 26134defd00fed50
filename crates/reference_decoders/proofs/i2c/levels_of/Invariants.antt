use Rattle.std.proofs.Common.{◌≡◌, map, take}
use Rattle.reference_decoders.specs.I2cHappenings.{meant}
use Rattle.dec_i2c.specs.Bus.{level_of}
use Rattle.reference_decoders.proofs.i2c.levels_of.Given as goal

abbrev pub invariant-loop-clock : goal.invariant-loop-clock
invariant-loop-clock l = l.levels.items ≡ map level_of (map meant (take l.clock-index l.clocks))
