use Rattle.std.proofs.Common.{◌≡◌, take}
use Rattle.list_cuts.specs.Bits.{high_first}
use Rattle.reference_decoders.proofs.numbers.high_first.Given as goal

abbrev pub invariant-loop-level : goal.invariant-loop-level
invariant-loop-level l = l.number ≡ high_first (take l.level-index l.levels)
