use Rattle.std.proofs.Common.{◌≡◌, ◌+◌, ◌++◌, List, ℕ, Some}
use Rattle.la_base.specs.Samples.{samples}
use Rattle.wait_cond.specs.Stops.{Stop, Chain}
use Rattle.wait_cond.specs.Waiting.{Waits, alts_of, wait_from, consumed_by}
use Rattle.find_job.proofs.Going.{Going}
use Rattle.find_job.proofs.stops.write_stops.Given as goal

abbrev pub invariant-loop-at : goal.invariant-loop-at
invariant-loop-at g l = record {
  room : consumed_by l.waiter + l.left.len ≡ consumed_by l.initial.waiter + l.fn.run.len;
  alts : alts_of l.waiter ≡ alts_of l.initial.waiter;
  going : (list : List ℕ) (stops : List Stop) → Waits l.initial.waiter list → Chain list (alts_of l.initial.waiter) 0 stops (wait_from l.initial.waiter)
      → Going (alts_of l.initial.waiter) (list ++ samples l.fn.run) stops l.waiter (Some l.left) (g.K.Sink.written l.initial.sink) (g.K.Sink.written l.sink);
  faults : g.K.Sink.faults l.sink ≡ g.K.Sink.faults l.initial.sink;
  goes_on : g.K.Sink.goes_on l.initial.sink l.sink;
}

abbrev pub decreases-loop-at : goal.decreases-loop-at
decreases-loop-at g l = l.left.len
