use Rattle.std.proofs.Common.{◌∙◌, ap, not, sym, refl}
use Rattle.std.specs.Result.{is_ok}
use Rattle.stage_crew.proofs.Gathering.{gathers_none, gathers_paused}
use Rattle.stage_crew.proofs.driver.let_read.Goals as goal

pub returns-then-state : goal.returns-then-state
returns-then-state g c = λ gathered. gathers_none g.G.MarkTake c.args.take.now c.args.state.now gathered

pub returns-in-Ok : goal.returns-in-Ok
returns-in-Ok g c = λ gathered.
    let e = c.pause.ensures in
    gathers_paused g.G.MarkTake c.args.state.now c.args.state.now c.pause.result gathered c.if-state.false (c.if-state.false ∙ sym (ap (λ r. not (is_ok r)) c.in-Ok.is)) refl e.took
    (record { instances = e.instances; origin = e.origin; cause = e.cause; going = e.going })

pub returns-in-Err : goal.returns-in-Err
returns-in-Err g c = λ gathered.
    let e = c.pause.ensures in
    gathers_paused g.G.MarkTake c.args.state.now _ c.pause.result gathered c.if-state.false (sym (ap (λ r. not (is_ok r)) c.in-Err.is)) refl e.took
    (record { instances = e.instances; origin = e.origin; cause = e.cause; going = e.going })

pub returns-in_default : goal.returns-in_default
returns-in_default g c = λ gathered. gathers_none g.G.MarkTake c.args.take.now c.args.state.now gathered
