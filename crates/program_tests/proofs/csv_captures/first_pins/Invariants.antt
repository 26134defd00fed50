use Rattle.std.proofs.Common.{ℕ, ◌<◌, length, slice_index}
use Rattle.program_tests.proofs.csv_captures.first_pins.Given as goal

abbrev pub invariant-loop-channel : goal.invariant-loop-channel
invariant-loop-channel l = (k : ℕ) → k < length l.pins.items → slice_index l.pins.items k < l.channels
