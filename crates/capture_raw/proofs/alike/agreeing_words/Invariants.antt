use Rattle.std.proofs.Common.{◌-◌, ◌≤◌}
use Rattle.capture_raw.specs.Masks.{AllAgree}
use Rattle.capture_raw.proofs.alike.agreeing_words.Given as goal

abbrev pub invariant-loop-done : goal.invariant-loop-done
invariant-loop-done l = record {
  order : l.known ≤ l.done;
  within : l.done ≤ l.end;
  agree : AllAgree l.mask l.first l.bytes l.done;
}

abbrev pub decreases-loop-done : goal.decreases-loop-done
decreases-loop-done l = l.end - l.done
