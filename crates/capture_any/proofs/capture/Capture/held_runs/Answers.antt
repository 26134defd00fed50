use Rattle.std.proofs.Common.{◌++◌, ◌+◌, ◌≤◌, ◌∷◌, [], ◌∙◌, ap, sym, subst, length, List, ℕ, Option}
use Rattle.la_base.specs.Samples.{samples}
use Rattle.la_base.specs.Runs.{samples_of}
use Rattle.la_base.specs.declared.samples.Run.{Run}
use Rattle.la_io.specs.Reading.{run_samples}
use Rattle.capture_any.specs.Reading.{given_by}
use Rattle.capture_any.specs.Taking.{GaveHeld}
use Rattle.capture_any.proofs.Taking.{counts_held, gave_further, more_given}
use Rattle.capture_any.proofs.capture.Capture.held_runs.Goals as goal

pub returns-in-Some-clause-gave : goal.returns-in-Some-clause-gave
returns-in-Some-clause-gave c =
    let old = c.args.self.now in
    let mid = c.held_run.new.self in
    let new = c.take_held.new.self in
    let held = c.take_held.ensures.gave in
    let run = c.in-Some.run' in
    let is = held.1 ∙ ap (λ (l : List Run). l ++ held.0) (c.push.ensures ∙ ap (λ (l : List Run). l ++ run ∷ []) c.clear.ensures) in
    subst (λ (l : List Run). GaveHeld old new (samples_of l)) (sym is)
    (gave_further old mid new (samples run) (samples_of held.0) c.in-Some.ensures.gave held.2)

pub returns-in-Some-clause-counts : goal.returns-in-Some-clause-counts
returns-in-Some-clause-counts c =
    let held = c.take_held.ensures.gave in
    let run = c.in-Some.run' in
    let is = held.1 ∙ ap (λ (l : List Run). l ++ held.0) (c.push.ensures ∙ ap (λ (l : List Run). l ++ run ∷ []) c.clear.ensures) in
    counts_held run held.0 c.take_held.new.into (given_by c.args.self.now) (given_by c.held_run.new.self) (given_by c.take_held.new.self) is c.in-Some.ensures.progress held.3

pub returns-in-Some-clause-progress : goal.returns-in-Some-clause-progress
returns-in-Some-clause-progress c = λ _.
    let held = c.take_held.ensures.gave in
    more_given c.in-Some.run' (given_by c.args.self.now) (given_by c.held_run.new.self) (given_by c.take_held.new.self) (length (samples_of held.0)) c.in-Some.ensures.progress held.3
