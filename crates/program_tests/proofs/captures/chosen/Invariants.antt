use Rattle.std.proofs.Common.{ℕ, ◌<◌, length, slice_index}
use Rattle.program_tests.proofs.captures.chosen.Given as goal

abbrev pub invariant-loop-pin : goal.invariant-loop-pin
invariant-loop-pin g l = (k : ℕ) → k < length l.chosen.items → slice_index l.chosen.items k < l.channels
