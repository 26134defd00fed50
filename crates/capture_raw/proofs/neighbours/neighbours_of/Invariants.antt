use Rattle.std.proofs.Common.{ℕ, ◌≡◌, ◌+◌, ◌-◌, ◌^◌, ◌<◌, ◌≤◌, length, slice_index}
use Rattle.capture_raw.proofs.neighbours.neighbours_of.Given as goal

abbrev pub invariant-loop-place : goal.invariant-loop-place
invariant-loop-place l = record {
  within : l.place ≤ length l.pins;
  ones : l.ones + 1 ≡ 2 ^ l.place;
  order : (k : ℕ) → k < l.place → slice_index l.pins k ≡ l.first + k;
}

abbrev pub decreases-loop-place : goal.decreases-loop-place
decreases-loop-place l = length l.pins - l.place
