use Rattle.std.proofs.Common.{◌-◌, ◌≤◌, length}
use Rattle.capture_raw.specs.Masks.{AllAgree}
use Rattle.capture_raw.proofs.alike.agreeing_blocks.Given as goal

abbrev pub invariant-loop-done : goal.invariant-loop-done
invariant-loop-done l = record {
  order : l.known ≤ l.done;
  within : l.done ≤ length l.bytes;
  agree : AllAgree l.mask l.first l.bytes l.done;
}

abbrev pub decreases-loop-done : goal.decreases-loop-done
decreases-loop-done l = length l.bytes - l.done
