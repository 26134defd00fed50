use Rattle.std.proofs.Common.{◌≡◌, ◌-◌, ◌<◌, ◌≤◌, ◌^◌, drop, length}
use Rattle.capture_raw.specs.Raw.{picked}
use Rattle.capture_raw.proofs.units.picked_few.Given as goal

abbrev pub invariant-loop-place : goal.invariant-loop-place
invariant-loop-place l = record {
  so_far : l.value ≡ picked (drop l.place l.pins) l.n;
  within : l.place ≤ length l.pins;
  small : l.value < 2 ^ (length l.pins - l.place);
}

abbrev pub decreases-loop-place : goal.decreases-loop-place
decreases-loop-place l = l.place
