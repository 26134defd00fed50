use Rattle.std.proofs.Common.{◌-◌, ◌≤◌, length}
use Rattle.byte_feed.proofs.Words.{SameTo}
use Rattle.byte_feed.proofs.repeats.common.Given as goal

abbrev pub invariant-loop-same : goal.invariant-loop-same
invariant-loop-same l = record { within : l.same ≤ length l.other; same : SameTo l.one l.other l.same }

abbrev pub decreases-loop-same : goal.decreases-loop-same
decreases-loop-same l = length l.other - l.same
