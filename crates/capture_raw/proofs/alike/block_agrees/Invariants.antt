use Rattle.std.proofs.Common.{◌-◌, ◌≤◌, length}
use Rattle.capture_raw.proofs.Agreeing.{Gathers}
use Rattle.capture_raw.proofs.alike.block_agrees.Given as goal

abbrev pub invariant-loop-place : goal.invariant-loop-place
invariant-loop-place l = record {
  within : l.place ≤ length l.bytes;
  gathers : Gathers l.first l.bytes l.different l.place;
}

abbrev pub decreases-loop-place : goal.decreases-loop-place
decreases-loop-place l = length l.bytes - l.place
