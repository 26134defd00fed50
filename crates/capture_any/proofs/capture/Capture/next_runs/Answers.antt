use Rattle.std.proofs.Common.{◌++◌, ◌+◌, ◌≤◌, ◌∷◌, [], ◌∙◌, ap, subst, IfSome, List, Option, Ok}
use Rattle.la_base.specs.declared.samples.Run.{Run}
use Rattle.capture_any.specs.Reading.{Next, given_by}
use Rattle.capture_any.proofs.Taking.{counts_first, gave_first}
use Rattle.capture_any.proofs.capture.Capture.next_runs.Goals as goal

pub returns-in-Ok-Some-clause-gives : goal.returns-in-Ok-Some-clause-gives
returns-in-Ok-Some-clause-gives g c =
    let left_old = g.S.Source.left c.args.source.now in
    let left_new = g.S.Source.left c.next.new.source in
    let held = c.take_held.ensures.gave in
    let run = c.in-Ok-Some.run' in
    gave_first c.args.self.now c.next.new.self c.take_held.new.self left_old left_new run held.0 c.take_held.new.into
    (subst (λ (r : Option Run). Next c.args.self.now c.next.new.self left_old left_new (Ok r)) c.in-Ok-Some.field-0-is c.in-Ok-Some.ensures.next) held.2
    (held.1 ∙ ap (λ (l : List Run). l ++ held.0) (c.push.ensures ∙ ap (λ (l : List Run). l ++ run ∷ []) c.clear.ensures))

pub returns-in-Ok-Some-clause-counts : goal.returns-in-Ok-Some-clause-counts
returns-in-Ok-Some-clause-counts g c told =
    let held = c.take_held.ensures.gave in
    let run = c.in-Ok-Some.run' in
    counts_first run held.0 c.take_held.new.into (given_by c.args.self.now) (given_by c.next.new.self) (given_by c.take_held.new.self)
    (held.1 ∙ ap (λ (l : List Run). l ++ held.0) (c.push.ensures ∙ ap (λ (l : List Run). l ++ run ∷ []) c.clear.ensures))
    (subst (λ (r : Option Run). IfSome r (λ run. given_by c.args.self.now + run.len ≤ given_by c.next.new.self)) c.in-Ok-Some.field-0-is c.in-Ok-Some.ensures.progress) held.3
