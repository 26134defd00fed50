use Rattle.std.proofs.Common.{◌≤◌, ◌-◌, length}
use Rattle.annot_merge.proofs.LimitLemmas.{AreBehind}
use Rattle.annot_merge.proofs.limits.limit_past.Given as goal

abbrev pub invariant-loop-at : goal.invariant-loop-at
invariant-loop-at l = record {
  from : l.limit.instance ≤ l.at;
  behind : AreBehind l.bounds l.limit.start l.limit.instance l.at;
}

abbrev pub decreases-loop-at : goal.decreases-loop-at
decreases-loop-at l = length l.bounds - l.at
