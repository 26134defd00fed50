use Rattle.std.proofs.Common.{◌≡◌, ◌≤◌, length, take}
use Rattle.capture_csv.specs.Records.{trim_back}
use Rattle.capture_csv.proofs.spaces.text_len.Given as goal

abbrev pub invariant-loop-count : goal.invariant-loop-count
invariant-loop-count l = record {
  within : l.count ≤ length l.field;
  same : trim_back (take l.count l.field) ≡ trim_back l.field;
}

abbrev pub decreases-loop-count : goal.decreases-loop-count
decreases-loop-count l = l.count
