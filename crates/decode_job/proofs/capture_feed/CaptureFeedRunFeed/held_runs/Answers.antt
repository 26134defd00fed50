use Rattle.std.proofs.Common.{◌≡◌, ◌++◌, ◌+◌, ◌≤◌, Bool, true, List, [], inr, refl, sym, ◌∙◌, ap, subst, length, arith}
use Rattle.std.proofs.lemmas.List.{append-nil}
use Rattle.la_base.specs.Runs.{samples_of}
use Rattle.la_base.specs.declared.samples.Run.{Run}
use Rattle.tree_io.specs.Feeds.{together}
use Rattle.tree_io.proofs.Together.{together-last}
use Rattle.capture_any.specs.Reading.{is_open_of}
use Rattle.capture_any.specs.Taking.{GaveHeld}
use Rattle.capture_any.proofs.Taking.{gave_at_hand}
use Rattle.decode_job.specs.Feeding.{GaveRuns}
use Rattle.decode_job.proofs.FeedLemmas.{feed_on, feed_stays}
use Rattle.decode_job.proofs.capture_feed.CaptureFeedRunFeed.held_runs.Goals as goal

pub returns-then-not-is_open-clause-gives : goal.returns-then-not-is_open-clause-gives
returns-then-not-is_open-clause-gives g c = (
  λ before gave. record { same_source = gave.same_source; form = gave.form; pins = gave.pins; count = gave.count; few = gave.few; given = gave.given; cause = gave.cause },
  inr c.clear.ensures,
)

pub returns-then-held_runs-clause-gives : goal.returns-then-held_runs-clause-gives
returns-then-held_runs-clause-gives g c =
    let left = g.S.Source.left in
    let faults = g.S.Source.faults in
    let old = c.args.self.now in
    let held = c.held_runs.ensures in
    let was_open : is_open_of old.capture.now ≡ true = cc in
    record {
      gave = λ before gave.
          subst (GaveRuns left faults _) (sym (together-last before c.held_runs.new.into))
          (feed_on left faults old _ refl refl refl refl held.setup.form held.setup.pins was_open (together before) gave (held.is_open ∙ was_open)
          (gave_at_hand old.capture.now c.held_runs.new.self (left old.source.now) (samples_of c.held_runs.new.into) held.gave) refl held.counts (held.few c.if-held_runs.true));
      few = λ all gave. gave.few;
    }

pub returns-clause-gives : goal.returns-clause-gives
returns-clause-gives g c =
    let left = g.S.Source.left in
    let faults = g.S.Source.faults in
    let old = c.args.self.now in
    let held = c.held_runs.ensures in
    let none = held.none c.if-held_runs.false in
    let was_open : is_open_of old.capture.now ≡ true = cc in
    let stays = held.counts in (
      λ before gave.
          feed_stays left faults old _ refl refl refl refl held.setup.form held.setup.pins was_open (together before) gave (held.is_open ∙ was_open)
          (gave_at_hand old.capture.now c.held_runs.new.self (left old.source.now) [] (subst (λ (l : List Run). GaveHeld old.capture.now c.held_runs.new.self (samples_of l)) none held.gave)) refl (omega (arith, stays)),
      inr none,
    )
