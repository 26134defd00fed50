use Rattle.std.proofs.Common.{refl, ◌≡◌, ◌++◌, ◌∙◌, Bool, true, List, [], length, Result, Ok, Err, sym, ap, subst, arith}
use Rattle.la_io.specs.declared.fault.CaptureError.{CaptureError}
use Rattle.wait_cond.specs.Conds.{cond_alts}
use Rattle.la_base.specs.Runs.{samples_of}
use Rattle.la_base.specs.declared.samples.Run.{Run}
use Rattle.capture_any.specs.Taking.{GaveHeld, Gives, open_behind}
use Rattle.la_io.specs.Reading.{CaptureCause}
use Rattle.capture_any.proofs.ListingLemmas.{Gave, gave_held, gave_more, same_still, same_on, lists_done, lists_fault, lists_no_memory, lists_read, lists_write}
use Rattle.find_job.proofs.Searching.{searching_starts, searching_on, searching_kept, cut_nothing, front_of_more, whole_is_front, whole_so_far}
use Rattle.find_job.specs.Stopping.{AllWritten, CutOff}
use Rattle.wait_cond.specs.Waiting.{alts_of}
use Rattle.find_job.proofs.search.find.Goals as goal

pub loop-waiter-init : goal.loop-waiter-init
loop-waiter-init g c = record {
  is_open = c.requires;
  same = same_still c.args.capture.now;
  searching = λ before told at stands. searching_starts c.args.capture.now c.new-waiter.result before told (g.S.Source.left c.args.source.now) (g.K.Sink.written c.args.sink.now) at stands c.new-waiter.ensures.new c.new-waiter.ensures.from;
  alts = c.new-waiter.ensures.alts;
  room = omega (arith, c.new-waiter.ensures.new.count);
  read = refl;
  write = refl;
  goes_on = g.met.K.Sink.goes_on_still c.args.sink.now;
}

pub write_runs-requires : goal.write_runs-requires
write_runs-requires g c =
    let e = c.in-Ok-Ok-true.ensures in
    omega (arith, c.loop-waiter.invariant.room, e.counts (c.in-Ok-Ok-true.field-0-is ∙ ap (λ (b : Bool). Ok b) c.in-Ok-Ok-true.field-0-0-test), e.few, ap (λ (l : List Run). length (samples_of l)) c.list.ensures)

pub loop-waiter-preserved : goal.loop-waiter-preserved
loop-waiter-preserved g c =
    let i = c.loop-waiter.invariant in
    let left = g.S.Source.left in
    let written = g.K.Sink.written in
    let old = c.loop-waiter.capture in
    let new = c.next_settled.new.capture in
    let left_old = left c.args.source.now in
    let left_now = left c.loop-waiter.source in
    let left_new = left c.next_settled.new.source in
    let next = c.next_settled.ensures in
    let same = same_on c.args.capture.now old new i.same next.form next.pins in
    let e = c.in-Ok-Ok-true.ensures in
    let wrote = c.in-Ok.ensures in
    let samples = samples_of c.next_settled.new.runs in
    let more : c.in-Ok-Ok-true.field-0 ≡ Ok true = c.in-Ok-Ok-true.field-0-is ∙ ap (λ (b : Bool). Ok b) c.in-Ok-Ok-true.field-0-0-test in
    let gives = subst (λ (r : Result Bool CaptureError). Gives old new left_now left_new c.next_settled.new.runs r) (c.in-Ok-Ok-true.field-0-is ∙ ap (λ (b : Bool). Ok b) c.in-Ok-Ok-true.field-0-0-test) e.gives in
    record {
      is_open = e.is_open ∙ ap open_behind more;
      same = same;
      searching = λ before told at stands.
          let s = i.searching before told at stands in
          let k = searching_kept old c.loop-waiter.waiter before told left_old left_now (written c.args.sink.now) (written c.loop-waiter.sink) s (written c.next_settled.new.sink) next.written in
          searching_on old c.loop-waiter.waiter before told left_old left_now (written c.args.sink.now) (written c.next_settled.new.sink) k new left_new samples c.write_runs.new.waiter (written c.write_runs.new.sink)
          (gave_more old new before told left_old left_now left_new k.given samples k.gave gives) wrote.alts
          (subst (λ (l : List Run). AllWritten c.write_runs.new.waiter (alts_of c.loop-waiter.waiter) (k.given ++ samples_of l) k.stops (written c.next_settled.new.sink) (written c.write_runs.new.sink)) c.list.ensures (wrote.written k.given k.stops k.waits k.chain));
      alts = wrote.alts ∙ i.alts;
      room = omega (arith, i.room, e.counts more, wrote.consumed, ap (λ (l : List Run). length (samples_of l)) c.list.ensures);
      read = subst (λ (r : Result Bool CaptureError). CaptureCause (g.S.Source.faults c.loop-waiter.source) (g.S.Source.faults c.next_settled.new.source) r) more e.read ∙ i.read;
      write = wrote.cause.kept ∙ (e.cause.kept ∙ i.write);
      goes_on = g.met.K.Sink.goes_on_further _ _ _ (g.met.K.Sink.goes_on_further _ _ _ i.goes_on next.goes_on) wrote.goes_on;
    }

-- a write failed at the runs
pub returns-in-Err-write_runs-clause-finds : goal.returns-in-Err-write_runs-clause-finds
returns-in-Err-write_runs-clause-finds g c = λ before told at stands.
    let i = c.loop-waiter.invariant in
    let left = g.S.Source.left in
    let written = g.K.Sink.written in
    let old = c.loop-waiter.capture in
    let new = c.next_settled.new.capture in
    let left_old = left c.args.source.now in
    let left_now = left c.loop-waiter.source in
    let left_new = left c.next_settled.new.source in
    let next = c.next_settled.ensures in
    let same = same_on c.args.capture.now old new i.same next.form next.pins in
    let s = i.searching before told at stands in
    let k = searching_kept old c.loop-waiter.waiter before told left_old left_now (written c.args.sink.now) (written c.loop-waiter.sink) s (written c.next_settled.new.sink) next.written in
    let samples = samples_of c.next_settled.new.runs in
    let gives = subst (λ (r : Result Bool CaptureError). Gives old new left_now left_new c.next_settled.new.runs r) (c.in-Ok-Ok-true.field-0-is ∙ ap (λ (b : Bool). Ok b) c.in-Ok-Ok-true.field-0-0-test) c.in-Ok-Ok-true.ensures.gives in
    let cut = subst (λ (l : List Run). CutOff (alts_of c.loop-waiter.waiter) (k.given ++ samples_of l) k.stops (written c.next_settled.new.sink) (written c.write_runs.new.sink)) c.list.ensures (c.in-Err-write_runs.ensures.written k.given k.stops k.waits k.chain) in
    lists_write c.args.capture.now new same _ _ before told left_old left_new (k.given ++ samples)
    (gave_more old new before told left_old left_now left_new k.given samples k.gave gives)
    (front_of_more old c.loop-waiter.waiter before told left_old left_now (written c.args.sink.now) (written c.next_settled.new.sink) k _ i.alts samples (written c.write_runs.new.sink) cut)

-- what was kept back couldn't be handed on
pub returns-in-Err-clause-finds : goal.returns-in-Err-clause-finds
returns-in-Err-clause-finds g c = λ before told at stands.
    let i = c.loop-waiter.invariant in
    let left = g.S.Source.left in
    let written = g.K.Sink.written in
    let old = c.loop-waiter.capture in
    let new = c.next_settled.new.capture in
    let left_old = left c.args.source.now in
    let left_now = left c.loop-waiter.source in
    let left_new = left c.next_settled.new.source in
    let next = c.next_settled.ensures in
    let same = same_on c.args.capture.now old new i.same next.form next.pins in
    let s = i.searching before told at stands in
    let e = c.in-Err.ensures in
    let held : GaveHeld old new [] = subst (λ (l : List Run). GaveHeld old new (samples_of l)) e.none e.held in
    let gave = gave_held old new before told left_old left_now s.given [] s.gave held in
    lists_write c.args.capture.now new same _ _ before told left_old left_new (s.given ++ [])
    (subst (λ x. Gave new before told left_old (left x) (s.given ++ [])) (sym e.unread) gave)
    (front_of_more old c.loop-waiter.waiter before told left_old left_now (written c.args.sink.now) (written c.loop-waiter.sink) s _ i.alts [] (written c.next_settled.new.sink)
    (cut_nothing old c.loop-waiter.waiter before told left_old left_now (written c.args.sink.now) (written c.loop-waiter.sink) s (written c.next_settled.new.sink) next.written))

pub returns-in-Ok-Ok-false-clause-finds : goal.returns-in-Ok-Ok-false-clause-finds
returns-in-Ok-Ok-false-clause-finds g c = λ before told at stands.
    let i = c.loop-waiter.invariant in
    let left = g.S.Source.left in
    let written = g.K.Sink.written in
    let old = c.loop-waiter.capture in
    let new = c.next_settled.new.capture in
    let left_old = left c.args.source.now in
    let left_now = left c.loop-waiter.source in
    let left_new = left c.next_settled.new.source in
    let next = c.next_settled.ensures in
    let same = same_on c.args.capture.now old new i.same next.form next.pins in
    let s = i.searching before told at stands in
    let k = searching_kept old c.loop-waiter.waiter before told left_old left_now (written c.args.sink.now) (written c.loop-waiter.sink) s (written c.next_settled.new.sink) next.written in
    let ends = subst (λ (r : Result Bool CaptureError). Gives old new left_now left_new c.next_settled.new.runs r) (c.in-Ok-Ok-false.field-0-is ∙ ap (λ (b : Bool). Ok b) c.in-Ok-Ok-false.field-0-0-test) c.in-Ok-Ok-false.ensures.gives in
    lists_done c.args.capture.now new same _ _ before told left_old left_new k.given old left_now k.gave ends
    (whole_so_far old c.loop-waiter.waiter before told left_old left_now (written c.args.sink.now) (written c.next_settled.new.sink) k _ i.alts)

pub returns-in-Ok-Err-Fault-clause-finds : goal.returns-in-Ok-Err-Fault-clause-finds
returns-in-Ok-Err-Fault-clause-finds g c = λ before told at stands.
    let i = c.loop-waiter.invariant in
    let left = g.S.Source.left in
    let written = g.K.Sink.written in
    let old = c.loop-waiter.capture in
    let new = c.next_settled.new.capture in
    let left_old = left c.args.source.now in
    let left_now = left c.loop-waiter.source in
    let left_new = left c.next_settled.new.source in
    let next = c.next_settled.ensures in
    let same = same_on c.args.capture.now old new i.same next.form next.pins in
    let s = i.searching before told at stands in
    let k = searching_kept old c.loop-waiter.waiter before told left_old left_now (written c.args.sink.now) (written c.loop-waiter.sink) s (written c.next_settled.new.sink) next.written in
    let ends = subst (λ (r : Result Bool CaptureError). Gives old new left_now left_new c.next_settled.new.runs r) (c.in-Ok-Err-Fault.field-0-is ∙ ap (λ (e : CaptureError). Err e) c.in-Ok-Err-Fault.field-0-0-is) c.in-Ok-Err-Fault.ensures.gives in
    rw c.in-Ok-Err-Fault.fault-is (lists_fault c.args.capture.now new same _ _ before told left_old left_new k.given old left_now k.gave c.in-Ok-Err-Fault.fault ends
    (whole_so_far old c.loop-waiter.waiter before told left_old left_now (written c.args.sink.now) (written c.next_settled.new.sink) k _ i.alts))

pub returns-in-Ok-Err-Read-clause-finds : goal.returns-in-Ok-Err-Read-clause-finds
returns-in-Ok-Err-Read-clause-finds g c = λ before told at stands.
    let i = c.loop-waiter.invariant in
    let left = g.S.Source.left in
    let written = g.K.Sink.written in
    let old = c.loop-waiter.capture in
    let new = c.next_settled.new.capture in
    let left_old = left c.args.source.now in
    let left_now = left c.loop-waiter.source in
    let left_new = left c.next_settled.new.source in
    let next = c.next_settled.ensures in
    let same = same_on c.args.capture.now old new i.same next.form next.pins in
    let s = i.searching before told at stands in
    let k = searching_kept old c.loop-waiter.waiter before told left_old left_now (written c.args.sink.now) (written c.loop-waiter.sink) s (written c.next_settled.new.sink) next.written in
    let ends = subst (λ (r : Result Bool CaptureError). Gives old new left_now left_new c.next_settled.new.runs r) (c.in-Ok-Err-Read.field-0-is ∙ ap (λ (e : CaptureError). Err e) c.in-Ok-Err-Read.field-0-0-is) c.in-Ok-Err-Read.ensures.gives in
    lists_read c.args.capture.now new same _ _ before told left_old left_new k.given old left_now k.gave ends
    (whole_so_far old c.loop-waiter.waiter before told left_old left_now (written c.args.sink.now) (written c.next_settled.new.sink) k _ i.alts)

pub returns-in-Ok-Err-NoMemory-clause-finds : goal.returns-in-Ok-Err-NoMemory-clause-finds
returns-in-Ok-Err-NoMemory-clause-finds g c = λ before told at stands.
    let i = c.loop-waiter.invariant in
    let left = g.S.Source.left in
    let written = g.K.Sink.written in
    let old = c.loop-waiter.capture in
    let new = c.next_settled.new.capture in
    let left_old = left c.args.source.now in
    let left_now = left c.loop-waiter.source in
    let left_new = left c.next_settled.new.source in
    let next = c.next_settled.ensures in
    let same = same_on c.args.capture.now old new i.same next.form next.pins in
    let s = i.searching before told at stands in
    let k = searching_kept old c.loop-waiter.waiter before told left_old left_now (written c.args.sink.now) (written c.loop-waiter.sink) s (written c.next_settled.new.sink) next.written in
    let ends = subst (λ (r : Result Bool CaptureError). Gives old new left_now left_new c.next_settled.new.runs r) (c.in-Ok-Err-NoMemory.field-0-is ∙ ap (λ (e : CaptureError). Err e) c.in-Ok-Err-NoMemory.field-0-0-is) c.in-Ok-Err-NoMemory.ensures.gives in
    lists_no_memory c.args.capture.now new same _ _ before told left_old left_new k.given old left_now k.gave ends
    (whole_is_front k.given (cond_alts c.args.cond) (written c.args.sink.now) (written c.next_settled.new.sink)
    (whole_so_far old c.loop-waiter.waiter before told left_old left_now (written c.args.sink.now) (written c.next_settled.new.sink) k _ i.alts))
