use Rattle.std.proofs.Common.{◌-◌, ◌≤◌, length}
use Rattle.byte_feed.specs.LineMoves.{AllIn}
use Rattle.byte_feed.proofs.line_ends.line_at.Given as goal

abbrev pub invariant-loop-count : goal.invariant-loop-count
invariant-loop-count l = record {
  within : l.count ≤ length l.bytes;
  more : l.known ≤ l.count;
  one : AllIn l.bytes l.count;
}

abbrev pub decreases-loop-count : goal.decreases-loop-count
decreases-loop-count l = length l.bytes - l.count
