use Rattle.std.proofs.Common.{◌≡◌, map, take}
use Rattle.list_cuts.specs.Places.{last_place}
use Rattle.dec_spi.specs.Bus.{place_of}
use Rattle.reference_decoders.specs.Happenings.{meant}
use Rattle.reference_decoders.proofs.spi.last_place.Given as goal

abbrev pub invariant-loop-clock : goal.invariant-loop-clock
invariant-loop-clock l = l.last ≡ last_place place_of (map meant (take l.clock-index l.clocks))
