use Rattle.std.proofs.Common.{◌≡◌, ◌-◌, ◌*◌, ◌≤◌}
use Rattle.capture_raw.specs.Masks.{SameSamples}
use Rattle.capture_raw.proofs.wide.broad_units.Given as goal

abbrev pub invariant-loop-at : goal.invariant-loop-at
invariant-loop-at l = record {
  some : 1 ≤ l.count;
  at_is : l.at ≡ l.count * l.unit;
  within : l.at ≤ l.end;
  same : SameSamples l.unit l.mask l.bytes l.count;
}

abbrev pub decreases-loop-at : goal.decreases-loop-at
decreases-loop-at l = l.end - l.at
