use Rattle.std.proofs.Common.{◌≤◌, length}
use Rattle.capture_vcd.specs.Chains.{ChainedFrom}
use Rattle.capture_vcd.proofs.Chaining.{keys}
use Rattle.capture_vcd.proofs.chains.Chains.of.Given as goal

abbrev pub invariant-loop-left : goal.invariant-loop-left
invariant-loop-left l = record {
  within : l.left ≤ length l.slots;
  chained : ChainedFrom l.left l.heads l.next (keys l.codes l.slots);
}

abbrev pub decreases-loop-left : goal.decreases-loop-left
decreases-loop-left l = l.left
