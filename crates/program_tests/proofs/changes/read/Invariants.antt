use Rattle.std.proofs.Common.{◌≡◌, ◌<◌, ℕ, length, slice_index}
use Rattle.program_tests.proofs.changes.read.Given as goal

abbrev pub invariant-loop-pin : goal.invariant-loop-pin
invariant-loop-pin g l = record {
  count : length l.pins.items ≡ l.pin;
  below : (k : ℕ) → k < length l.pins.items → slice_index l.pins.items k < l.pin;
}
