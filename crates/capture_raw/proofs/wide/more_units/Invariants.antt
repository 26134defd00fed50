use Rattle.std.proofs.Common.{◌≡◌, ◌-◌, ◌*◌, ◌≤◌, length}
use Rattle.capture_raw.specs.Masks.{SameSamples}
use Rattle.capture_raw.proofs.wide.more_units.Given as goal

abbrev pub invariant-loop-at : goal.invariant-loop-at
invariant-loop-at l = record {
  some : 1 ≤ l.count;
  at_is : l.at ≡ l.count * l.unit;
  within : l.at ≤ length l.bytes;
  same : SameSamples l.unit l.mask l.bytes l.count;
}

abbrev pub decreases-loop-at : goal.decreases-loop-at
decreases-loop-at l = length l.bytes - l.at
