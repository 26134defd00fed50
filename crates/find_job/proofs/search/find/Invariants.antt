use Rattle.std.proofs.Common.{◌≡◌, ◌≤◌, ◌-◌, ◌^◌, List, [], ℕ, true}
use Rattle.wait_cond.specs.Conds.{cond_alts}
use Rattle.wait_cond.specs.Waiting.{alts_of, consumed_by}
use Rattle.la_io.specs.Capture.{Told}
use Rattle.capture_any.specs.Captures.{ToldAt}
use Rattle.capture_any.specs.Reading.{Stands, given_by, is_open_of}
use Rattle.capture_any.proofs.ListingLemmas.{SameCapture}
use Rattle.find_job.proofs.Searching.{Searching}
use Rattle.find_job.proofs.search.find.Given as goal

abbrev pub invariant-loop-waiter : goal.invariant-loop-waiter
invariant-loop-waiter g l = record {
  is_open : is_open_of l.capture ≡ true;
  same : SameCapture l.initial.capture l.capture;
  searching : (before : List ℕ) (told : Told) → ToldAt told (g.S.Source.left l.initial.source) → Stands l.initial.capture before told []
      → Searching l.capture l.waiter before told (g.S.Source.left l.initial.source) (g.S.Source.left l.source) (g.K.Sink.written l.initial.sink) (g.K.Sink.written l.sink);
  alts : alts_of l.waiter ≡ cond_alts l.fn.cond;
  room : consumed_by l.waiter ≤ given_by l.capture;
  read : g.S.Source.faults l.source ≡ g.S.Source.faults l.initial.source;
  write : g.K.Sink.faults l.sink ≡ g.K.Sink.faults l.initial.sink;
  goes_on : g.K.Sink.goes_on l.initial.sink l.sink;
}

abbrev pub decreases-loop-waiter : goal.decreases-loop-waiter
decreases-loop-waiter g l = 2 ^ 60 - given_by l.capture
