use Rattle.std.proofs.Common.{◌≤◌, ◌+◌, ◌-◌, length}
use Rattle.capture_csv.proofs.SimpleLines.{Counted}
use Rattle.capture_csv.proofs.simple.count_each.Given as goal

abbrev pub invariant-fields : goal.invariant-fields
invariant-fields l = record {
  within : l.from ≤ length l.text;
  few : l.count ≤ l.from + 1;
  counted : Counted l.text l.from l.count;
}

abbrev pub decreases-fields : goal.decreases-fields
decreases-fields l = length l.text - l.from
