use Rattle.std.proofs.Common.{length, ◌-◌, ◌≡◌, ◌≤◌, take}
use Rattle.la_base.specs.Runs.{samples_of}
use Rattle.make_job.proofs.made_feed.put_runs.Given as goal

abbrev pub invariant-loop-at : goal.invariant-loop-at
invariant-loop-at l = record {
  within : l.at ≤ length l.samples;
  few : length l.into ≤ l.at;
  put : samples_of l.into ≡ take l.at l.samples;
}

abbrev pub decreases-loop-at : goal.decreases-loop-at
decreases-loop-at l = length l.samples - l.at
