use Rattle.std.proofs.Common.{◌≡◌, ◌-◌, ◌≤◌, take, length}
use Rattle.capture_raw.proofs.wide.equal_front.Given as goal

abbrev pub invariant-loop-done : goal.invariant-loop-done
invariant-loop-done l = record {
  within : l.done ≤ length l.b;
  same : take l.done l.a ≡ take l.done l.b;
}

abbrev pub decreases-loop-done : goal.decreases-loop-done
decreases-loop-done l = length l.b - l.done
