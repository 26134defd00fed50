use Rattle.std.proofs.Common.{[], Bool, true, false, Err, Ok, refl, sym, subst}
use Rattle.tree_runs.specs.Passing.{Took}
use Rattle.tree_io.specs.Feeds.{real}
use Rattle.stage_crew.specs.Gathering.{TakesUntil}
use Rattle.tree_runs.proofs.Joining.{took_front}
use Rattle.stage_crew.proofs.Common.{not_true}
use Rattle.stage_crew.proofs.Gathering.{took_none}
use Rattle.stage_crew.proofs.Taking.{takes_none, takes_one}
use Rattle.stage_crew.proofs.marks.take_marks.Goals as goal

pub returns-then-stopped-clause-took : goal.returns-then-stopped-clause-took
returns-then-stopped-clause-took g c = ([], took_none (g.G.MarkTake.took c.args.take.now) c.args.number, (real c.args.marks.now, refl), λ is. refl)

pub returns-then-stopped-clause-takes : goal.returns-then-stopped-clause-takes
returns-then-stopped-clause-takes g c =
    let t = g.G.MarkTake in
    let old = c.args.take.now in
    subst (λ (b : Bool). TakesUntil t b true old old) (sym c.if-stopped.true) (takes_none t true old)

pub returns-in-Ok-clause-took : goal.returns-in-Ok-clause-took
returns-in-Ok-clause-took g c =
    let f = took_front c.in-Ok.ensures.adds in
    (f.taken, f.took, f.reaches, λ is. absurd (not_true c.if-stopped.false is))

pub returns-in-Ok-clause-takes : goal.returns-in-Ok-clause-takes
returns-in-Ok-clause-takes g c =
    let t = g.G.MarkTake in
    let e = c.in-Ok.ensures in
    subst (λ (b : Bool). TakesUntil t b false c.args.take.now c.take_marks.new.self) (sym c.if-stopped.false) (takes_one t (Ok c.in-Ok.field-0) (record { instances = e.instances; origin = e.origin; cause = e.cause; going = e.going }))

pub returns-in-Err-clause-took : goal.returns-in-Err-clause-took
returns-in-Err-clause-took g c =
    let f = took_front c.in-Err.ensures.adds in
    (f.taken, f.took, f.reaches, λ is. absurd (not_true c.if-stopped.false is))

pub returns-in-Err-clause-takes : goal.returns-in-Err-clause-takes
returns-in-Err-clause-takes g c =
    let t = g.G.MarkTake in
    let e = c.in-Err.ensures in
    subst (λ (b : Bool). TakesUntil t b true c.args.take.now c.take_marks.new.self) (sym c.if-stopped.false) (takes_one t (Err c.in-Err.field-0) (record { instances = e.instances; origin = e.origin; cause = e.cause; going = e.going }))
