use Rattle.std.proofs.Common.{◌≡◌, List, [], subst}
use Rattle.la_base.specs.Runs.{samples_of}
use Rattle.la_base.specs.declared.samples.Run.{Run}
use Rattle.capture_any.specs.Taking.{GaveHeld}
use Rattle.capture_any.proofs.Taking.{gave_at_hand, gives_behind}
use Rattle.find_job.proofs.search.next_settled.Goals as goal

-- what was read already
pub returns-then-held_runs-clause-gives : goal.returns-then-held_runs-clause-gives
returns-then-held_runs-clause-gives g c = gave_at_hand c.args.capture.now c.held_runs.new.self (g.S.Source.left c.args.source.now) (samples_of c.held_runs.new.into) c.held_runs.ensures.gave

pub returns-clause-gives : goal.returns-clause-gives
returns-clause-gives g c =
    let old = c.args.capture.now in
    let mid = c.held_runs.new.self in
    let held = c.held_runs.ensures in
    let left = g.S.Source.left in
    gives_behind old mid c.next_runs.new.self (left c.args.source.now) (left c.next_runs.new.source)
    (subst (λ (l : List Run). GaveHeld old mid (samples_of l)) (held.none c.if-held_runs.false) held.gave) c.next_runs.new.into c.next_runs.result c.next_runs.ensures.gives
