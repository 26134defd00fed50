use Rattle.std.proofs.Common.{◌≡◌, take}
use Rattle.list_cuts.specs.Bits.{low_first}
use Rattle.reference_decoders.proofs.numbers.low_first.Given as goal

abbrev pub invariant-loop-place : goal.invariant-loop-place
invariant-loop-place l = l.number ≡ low_first (take l.place l.levels)
