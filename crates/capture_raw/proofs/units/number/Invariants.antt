use Rattle.std.proofs.Common.{◌≡◌, ◌-◌, ◌<◌, ◌≤◌, ◌^◌, drop, length}
use Rattle.capture_raw.specs.Raw.{number}
use Rattle.capture_raw.proofs.units.number.Given as goal

abbrev pub invariant-loop-place : goal.invariant-loop-place
invariant-loop-place l = record {
  so_far : l.value ≡ number (drop l.place l.unit);
  within : l.place ≤ length l.unit;
  small : l.value < 256 ^ (length l.unit - l.place);
}

abbrev pub decreases-loop-place : goal.decreases-loop-place
decreases-loop-place l = l.place
