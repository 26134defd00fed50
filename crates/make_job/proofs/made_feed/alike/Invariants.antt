use Rattle.std.proofs.Common.{length, ◌-◌, ◌≡◌, ◌≤◌, replicate, take}
use Rattle.make_job.proofs.made_feed.alike.Given as goal

abbrev pub invariant-loop-count : goal.invariant-loop-count
invariant-loop-count l = record {
  some : 1 ≤ l.count;
  within : l.count ≤ length l.samples;
  alike : take l.count l.samples ≡ replicate l.count l.first;
}

abbrev pub decreases-loop-count : goal.decreases-loop-count
decreases-loop-count l = length l.samples - l.count
