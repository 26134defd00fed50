use Rattle.std.proofs.Common.{◌≡◌, ◌≤◌, ◌-◌, length, drop}
use Rattle.capture_csv.specs.Records.{trim_front}
use Rattle.capture_csv.proofs.spaces.spaces_at.Given as goal

abbrev pub invariant-loop-count : goal.invariant-loop-count
invariant-loop-count l = record {
  within : l.count ≤ length l.field;
  same : trim_front (drop l.count l.field) ≡ trim_front l.field;
}

abbrev pub decreases-loop-count : goal.decreases-loop-count
decreases-loop-count l = length l.field - l.count
