use Rattle.std.proofs.Common.{◌≡◌, ◌<◌, ◌∙◌, ◌∷◌, ◌++◌, [], List, None, Some, length, length-append, append-nil, map, take, refl, sym, ap, subst, arith, append_assoc}
use Rattle.la_base.specs.Runs.{samples_of}
use Rattle.la_base.specs.declared.samples.Run.{Run}
use Rattle.la_base.specs.declared.wires.Feed.{Feed}
use Rattle.la_base.specs.declared.wires.Out.{Out}
use Rattle.decoder_core.specs.Driving.{LeavesFewer}
use Rattle.decoder_core.specs.Inputs.{Sample}
use Rattle.tree_io.specs.Feeds.{marks_of}
use Rattle.stack_laws.specs.Feeds.{feeds_of, items_in}
use Rattle.stack_laws.specs.Moves.{StepOn, makes}
use Rattle.stage_run.specs.Boxes.{children_of, told_of}
use Rattle.stage_run.specs.Rows.{waiting}
use Rattle.stage_run.proofs.Behind.{behind_gives}
use Rattle.stage_run.proofs.Lessening.{front_some, runs_less, some_taken}
use Rattle.stage_run.proofs.Stepping.{left_on, runs_step}
use Rattle.stage_run.proofs.Making.{links_kept, makes_outs, one_of}
use Rattle.stage_run.proofs.Lying.{lies_runs}
use Rattle.stack_laws.proofs.Heeding.{above_grows}
use Rattle.stage_run.proofs.stage.Stage.step_runs.Goals as goal

pub returns-clause-goes : goal.returns-clause-goes
returns-clause-goes g c =
    let m = g.M.Machine in
    let s = c.args.self.now in
    let e = c.step_runs-taken.ensures in
    let into = c.step_runs-taken.new.into in
    let taken = c.step_runs-taken.result in
    let front = e.steps.front in
    record {
      links = links_kept s.inbox.input s.outbox c.keep.new.self c.keep.ensures.same;
      setup = e.setup;
      moves = λ start view v.
          let before = start ++ view.consumed in
          let gives = e.steps.gives before v.stands in
          let stepped =
          runs_step (waiting s.inbox.runs) _ taken.count taken.rest front (items_in (waiting s.inbox.feeds))
          (ap (λ (l : List Run). map Sample (samples_of (take taken.count l))) (sym c.waiting.ensures.list) ∙ e.steps.split)
          (c.skip_but.ensures ∙ ap (λ (l : List Run). l) refl) in
          let left = left_on (items_in view.received) view.consumed front _ _ v.left stepped in
          let longer = length-append view.consumed front in
          let grown = above_grows view.received (length view.consumed) (length (view.consumed ++ front)) (omega (arith, longer)) in
          let above = v.above in (
            StepOn front into None ∷ [],
            omega arith,
            one_of (StepOn front into None),
            record {
              may = ((v.closed ∙ c.requires.going, (_, left), behind_gives (m.outputs (m.setup s.machine)) (g.met.M.Machine.prefix s.machine) start view.consumed front into gives, λ floor is. let no : None ≡ Some floor = is in absurd cc), tt);
              means = record {
                received = v.received;
                stands = subst (m.consumed c.step_runs-taken.new.self) (append_assoc start view.consumed front) (e.steps.consumes before v.stands);
                left = left;
                over = v.over;
                above = omega (arith, above, grown);
                lies = lies_runs view.received (waiting s.inbox.feeds) view.consumed front (waiting s.inbox.runs) _ (items_in (waiting s.inbox.feeds)) stepped v.lies;
                told = refl;
                children = ap (λ (l : List Feed). map (makes l) view.children) (append-nil (feeds_of into)) ∙ ap (map (makes (feeds_of into))) v.children ∙ sym (c.keep.ensures.children ∙ ap (λ (l : List Out). map (makes (feeds_of l)) (children_of s.outbox)) c.list.ensures.list);
                marks = makes_outs (marks_of into) [] view.marks refl ∙ ap (makes (marks_of into)) v.marks ∙ sym (c.keep.ensures.told ∙ ap (λ (l : List Out). makes (marks_of l) (told_of s.outbox)) c.list.ensures.list);
                closed = v.closed;
              };
            },
          );
    }

pub returns-clause-less : goal.returns-clause-less
returns-clause-less g c =
    let s = c.args.self.now in
    let e = c.step_runs-taken.ensures in
    let taken = c.step_runs-taken.result in
    let w = waiting s.inbox.runs in
    let feeds = waiting s.inbox.feeds in
    let runs_is = c.waiting.ensures.list in
    let split = ap (λ (l : List Run). map Sample (samples_of (take taken.count l))) (sym runs_is) ∙ e.steps.split in
    let some = e.some (subst (λ (l : List Run). 0 < length l) (sym runs_is) c.requires.some) in
    let fewer = subst (λ (l : List Run). LeavesFewer (samples_of (take taken.count l)) taken.rest) runs_is e.fewer in
    let front = front_some (samples_of (take taken.count w)) taken.rest e.steps.front split (some_taken w taken.count c.requires.some some) fewer in
    runs_less _ _ e.steps.front (length feeds) (runs_step w _ taken.count taken.rest e.steps.front (items_in feeds) split (c.skip_but.ensures ∙ ap (λ (l : List Run). l) refl)) front
