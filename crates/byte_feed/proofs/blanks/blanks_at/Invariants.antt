use Rattle.std.proofs.Common.{◌-◌, ◌≤◌, length}
use Rattle.byte_feed.specs.Blanks.{AllBlank}
use Rattle.byte_feed.proofs.blanks.blanks_at.Given as goal

abbrev pub invariant-loop-count : goal.invariant-loop-count
invariant-loop-count l = record {
  within : l.count ≤ length l.bytes;
  blank : AllBlank l.bytes l.count;
}

abbrev pub decreases-loop-count : goal.decreases-loop-count
decreases-loop-count l = length l.bytes - l.count
