use Rattle.std.proofs.Common.{◌≡◌, map, take}
use Rattle.dec_spi.specs.Bus.{mosi_of}
use Rattle.reference_decoders.specs.Happenings.{meant}
use Rattle.reference_decoders.proofs.spi.mosi_levels.Given as goal

abbrev pub invariant-loop-clock : goal.invariant-loop-clock
invariant-loop-clock l = l.levels.items ≡ map mosi_of (map meant (take l.clock-index l.clocks))
