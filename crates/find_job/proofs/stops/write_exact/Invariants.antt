use Rattle.std.proofs.Common.{◌≡◌, ◌+◌, ◌++◌, List, ℕ, length, take}
use Rattle.la_base.specs.Runs.{samples_of}
use Rattle.wait_cond.specs.Stops.{Stop, Chain}
use Rattle.wait_cond.specs.Waiting.{Waits, alts_of, wait_from, consumed_by}
use Rattle.wait_cond.specs.Walks.{walked}
use Rattle.find_job.proofs.Walking.{Walking}
use Rattle.find_job.proofs.stops.write_exact.Given as goal

abbrev pub invariant-loop-run : goal.invariant-loop-run
invariant-loop-run g l = record {
  count : walked l.walk ≡ consumed_by l.initial.waiter + length (samples_of (take l.run-index l.runs));
  walking : (list : List ℕ) (stops : List Stop) → Waits l.initial.waiter list → Chain list (alts_of l.initial.waiter) 0 stops (wait_from l.initial.waiter)
      → Walking (alts_of l.initial.waiter) (list ++ samples_of (take l.run-index l.runs)) stops l.walk (g.K.Sink.written l.initial.sink) (g.K.Sink.written l.sink);
  faults : g.K.Sink.faults l.sink ≡ g.K.Sink.faults l.initial.sink;
  goes_on : g.K.Sink.goes_on l.initial.sink l.sink;
}
