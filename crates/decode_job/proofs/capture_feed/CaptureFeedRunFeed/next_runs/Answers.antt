use Rattle.std.proofs.Common.{◌≡◌, Bool, true, Result, refl, sym, ◌∙◌, ap, subst}
use Rattle.std.proofs.lemmas.List.{append-nil}
use Rattle.tree_io.specs.Feeds.{together}
use Rattle.tree_io.proofs.Together.{together-last}
use Rattle.decode_job.specs.Feeding.{GaveRuns}
use Rattle.la_io.specs.declared.fault.CaptureError.{CaptureError}
use Rattle.capture_any.specs.Reading.{is_open_of}
use Rattle.la_io.specs.Reading.{CaptureCause}
use Rattle.capture_any.specs.Taking.{Gives, open_behind}
use Rattle.decode_job.proofs.FeedLemmas.{answer_closes, answer_more, feed_ends, feed_on}
use Rattle.decode_job.proofs.capture_feed.CaptureFeedRunFeed.next_runs.Goals as goal

pub returns-in-None-clause-gives : goal.returns-in-None-clause-gives
returns-in-None-clause-gives g c =
    let left = g.S.Source.left in
    let faults = g.S.Source.faults in
    let old = c.args.self.now in
    let next = c.next_runs.ensures in
    let more = answer_more c.next_runs.result (sym c.end_of.ensures ∙ c.in-None.is) in
    let was_open : is_open_of old.capture.now ≡ true = cc in
    record {
      gave = λ before gave.
          subst (GaveRuns left faults _) (sym (together-last before c.next_runs.new.into))
          (feed_on left faults old _ refl refl refl refl next.setup.form next.setup.pins was_open (together before) gave (next.is_open ∙ ap open_behind more)
          (subst (Gives old.capture.now c.next_runs.new.self (left old.source.now) (left c.next_runs.new.source) c.next_runs.new.into) more next.gives)
          (subst (λ (a : Result Bool CaptureError). CaptureCause (faults old.source.now) (faults c.next_runs.new.source) a) more next.cause) (next.counts more) next.few);
      few = λ all gave. gave.few;
    }

pub returns-in-Some-clause-gives : goal.returns-in-Some-clause-gives
returns-in-Some-clause-gives g c =
    let old = c.args.self.now in
    let next = c.next_runs.ensures in
    let ends = sym c.end_of.ensures ∙ c.in-Some.is in
    let was_open : is_open_of old.capture.now ≡ true = cc in
    record {
      gave = λ before gave.
          subst (GaveRuns g.S.Source.left g.S.Source.faults _) (ap together (sym (append-nil before)))
          (feed_ends g.S.Source.left g.S.Source.faults old _ refl refl refl refl next.setup.form next.setup.pins was_open (together before) gave c.clear-in-Some.ensures c.next_runs.new.into c.next_runs.result ends (next.is_open ∙ answer_closes c.next_runs.result c.in-Some.end ends) next.gives next.cause);
      few = λ all gave. gave.few;
    }
