use Rattle.std.proofs.Common.{◌≡◌, ◌+◌, ◌∙◌, ◌∷◌, ◌++◌, [], ℕ, List, None, Some, get_or, length, length-append, append-nil, map, refl, sym, ap, subst, arith, append_assoc}
use Rattle.la_base.specs.Runs.{samples_of}
use Rattle.la_base.specs.declared.samples.Run.{Run}
use Rattle.la_base.specs.declared.wires.Feed.{Feed}
use Rattle.la_base.specs.declared.wires.Out.{Out}
use Rattle.decoder_core.specs.Inputs.{Sample}
use Rattle.tree_io.specs.Feeds.{marks_of}
use Rattle.stack_laws.specs.Feeds.{feeds_of, items_in}
use Rattle.stack_laws.specs.Moves.{StepOn, makes}
use Rattle.stage_run.specs.Boxes.{LieIn, children_of, told_of}
use Rattle.stage_run.specs.Rows.{waiting}
use Rattle.stage_run.proofs.Behind.{behind_gives}
use Rattle.stage_run.proofs.Lessening.{feeds_less}
use Rattle.stage_run.proofs.Stepping.{feeds_step, first_is, left_on}
use Rattle.stage_run.proofs.Making.{links_kept, makes_outs, one_of}
use Rattle.stage_run.proofs.Lying.{first_told, lies_step}
use Rattle.stack_laws.proofs.Heeding.{above_grows}
use Rattle.stage_run.proofs.stage.Stage.step_feed.Goals as goal

pub returns-clause-goes : goal.returns-clause-goes
returns-clause-goes g c =
    let m = g.M.Machine in
    let s = c.args.self.now in
    let e = c.step-left.ensures in
    let into = c.step-left.new.into in
    let left_over = c.step-left.result in
    let feed = c.index-waiting-0.result in
    let front = e.step.front in
    record {
      links = links_kept s.inbox.input s.outbox c.keep.new.self c.keep.ensures.same;
      setup = e.setup;
      moves = λ start view v.
          let before = start ++ view.consumed in
          let gives = e.step.gives before v.stands in
          let w = waiting s.inbox.feeds in
          let first = first_is w feed c.requires.some (c.index-waiting-0.is ∙ ap (λ (l : List Feed). get_or l 0 feed) c.waiting.ensures.list) in
          let bare : length view.consumed + length (samples_of (waiting s.inbox.runs)) ≡ length view.consumed = let none = ap (λ (l : List Run). length (samples_of l)) c.requires.no_runs in omega (arith, none) in
          let lay = subst (λ (n : ℕ). LieIn view.received n w) bare v.lies in
          let longer = length-append view.consumed front in
          let grown = above_grows view.received (length view.consumed) (length (view.consumed ++ front)) (omega (arith, longer)) in
          let had = v.above in
          let now = first_told view.received (length view.consumed) w w feed front first lay in
          let larger = c.max-self.ensures in
          let place = c.place_of.ensures in
          let now_bare : length view.consumed + length front ≡ length (view.consumed ++ front) + length (samples_of (waiting s.inbox.runs)) = omega (arith, longer, bare) in
          let left = left_on (items_in view.received) view.consumed front _ _ v.left
          (feeds_step (waiting s.inbox.feeds) _ feed left_over front (map Sample (samples_of (waiting s.inbox.runs))) (first_is (waiting s.inbox.feeds) feed c.requires.some (c.index-waiting-0.is ∙ ap (λ (l : List Feed). get_or l 0 feed) c.waiting.ensures.list))
          (ap (λ (l : List Run). map Sample (samples_of l)) c.requires.no_runs) e.step.split c.skip_but.ensures) in (
            StepOn front into None ∷ [],
            omega arith,
            one_of (StepOn front into None),
            record {
              may = ((v.closed ∙ c.requires.going, (_, left), behind_gives (m.outputs (m.setup s.machine)) (g.met.M.Machine.prefix s.machine) start view.consumed front into gives, λ floor is. let no : None ≡ Some floor = is in absurd cc), tt);
              means = record {
                received = v.received;
                stands = subst (m.consumed c.step-left.new.self) (append_assoc start view.consumed front) (e.step.consumes before v.stands);
                left = left;
                over = v.over;
                above = omega (arith, had, now, grown, larger, place);
                lies = subst (λ (n : ℕ). LieIn view.received n (waiting c.skip_but.new.self)) now_bare (lies_step view.received (length view.consumed) w (waiting c.skip_but.new.self) feed front first lay left_over e.step.split e.step.more c.skip_but.ensures);
                told = refl;
                children = ap (λ (l : List Feed). map (makes l) view.children) (append-nil (feeds_of into)) ∙ ap (map (makes (feeds_of into))) v.children ∙ sym (c.keep.ensures.children ∙ ap (λ (l : List Out). map (makes (feeds_of l)) (children_of s.outbox)) c.list.ensures.list);
                marks = makes_outs (marks_of into) [] view.marks refl ∙ ap (makes (marks_of into)) v.marks ∙ sym (c.keep.ensures.told ∙ ap (λ (l : List Out). makes (marks_of l) (told_of s.outbox)) c.list.ensures.list);
                closed = v.closed;
              };
            },
          );
    }

pub returns-clause-less : goal.returns-clause-less
returns-clause-less g c =
    let s = c.args.self.now in
    let e = c.step-left.ensures.step in
    let w = waiting s.inbox.feeds in
    let feed = c.index-waiting-0.result in
    let runs = map Sample (samples_of (waiting s.inbox.runs)) in
    let first = first_is w feed c.requires.some (c.index-waiting-0.is ∙ ap (λ (l : List Feed). get_or l 0 feed) c.waiting.ensures.list) in
    let left = feeds_step w _ feed c.step-left.result e.front runs first (ap (λ (l : List Run). map Sample (samples_of l)) c.requires.no_runs) e.split c.skip_but.ensures in
    feeds_less w _ feed c.step-left.result e.front _ _ first c.skip_but.ensures left e.split e.some e.more
