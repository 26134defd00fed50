use Rattle.std.proofs.Common.{◌≡◌, ◌≤◌, ◌+◌, ◌-◌, ◌++◌, List, ℕ, length, take}
use Rattle.la_base.specs.Runs.{samples_of}
use Rattle.wait_cond.specs.Stops.{Stop, Chain}
use Rattle.wait_cond.specs.Waiting.{Waits, alts_of, wait_from, consumed_by}
use Rattle.find_job.specs.Stopping.{AllWritten}
use Rattle.find_job.proofs.stops.write_runs.Given as goal

abbrev pub invariant-loop-at : goal.invariant-loop-at
invariant-loop-at g l = record {
  within : l.at ≤ length l.runs;
  count : consumed_by l.waiter ≡ consumed_by l.initial.waiter + length (samples_of (take l.at l.runs));
  alts : alts_of l.waiter ≡ alts_of l.initial.waiter;
  written : (list : List ℕ) (stops : List Stop) → Waits l.initial.waiter list → Chain list (alts_of l.initial.waiter) 0 stops (wait_from l.initial.waiter)
      → AllWritten l.waiter (alts_of l.initial.waiter) (list ++ samples_of (take l.at l.runs)) stops (g.K.Sink.written l.initial.sink) (g.K.Sink.written l.sink);
  faults : g.K.Sink.faults l.sink ≡ g.K.Sink.faults l.initial.sink;
  goes_on : g.K.Sink.goes_on l.initial.sink l.sink;
}

abbrev pub decreases-loop-at : goal.decreases-loop-at
decreases-loop-at g l = length l.runs - l.at
