use Rattle.std.proofs.Common.{◌≤◌, ◌-◌, length}
use Rattle.capture_csv.specs.Simple.{AllBefore}
use Rattle.capture_csv.proofs.simple.byte_at.Given as goal

abbrev pub invariant-loop-count : goal.invariant-loop-count
invariant-loop-count l = record {
  within : l.count ≤ length l.text;
  before : AllBefore l.byte l.text l.count;
}

abbrev pub decreases-loop-count : goal.decreases-loop-count
decreases-loop-count l = length l.text - l.count
