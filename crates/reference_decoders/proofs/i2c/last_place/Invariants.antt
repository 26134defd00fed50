use Rattle.std.proofs.Common.{◌≡◌, map, take}
use Rattle.reference_decoders.specs.I2cHappenings.{meant}
use Rattle.list_cuts.specs.Places.{last_place}
use Rattle.dec_i2c.specs.Bus.{place_of}
use Rattle.reference_decoders.proofs.i2c.last_place.Given as goal

abbrev pub invariant-loop-clock : goal.invariant-loop-clock
invariant-loop-clock l = l.last ≡ last_place place_of (map meant (take l.clock-index l.clocks))
