use Rattle.std.proofs.Common.{◌≡◌, ◌-◌, ◌*◌, ◌≤◌, length}
use Rattle.capture_raw.specs.Masks.{SameSamples}
use Rattle.capture_raw.proofs.pairs.more_words.Given as goal

abbrev pub invariant-loop-done : goal.invariant-loop-done
invariant-loop-done l = record {
  some : 1 ≤ l.count;
  done_is : l.done ≡ l.count * 2;
  within : l.done ≤ length l.bytes;
  same : SameSamples 2 l.mask l.bytes l.count;
}

abbrev pub decreases-loop-done : goal.decreases-loop-done
decreases-loop-done l = length l.bytes - l.done
