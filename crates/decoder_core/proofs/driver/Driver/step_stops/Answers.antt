use Rattle.std.proofs.Common.{◌++◌, [], ℕ, List, sym, ◌∙◌, ap, arith, subst}
use Rattle.std.proofs.lemmas.List.{append-nil}
use Rattle.la_base.specs.declared.wires.Out.{Out}
use Rattle.wait_cond.specs.Waiting.{rest_samples}
use Rattle.wait_cond.specs.Walks.{Walks}
use Rattle.wait_cond.specs.declared.alt.Alt.{Alt}
use Rattle.decoder_core.specs.Driving.{Drives, StepsRuns}
use Rattle.decoder_core.specs.Inputs.{Item, counted_samples}
use Rattle.decoder_core.proofs.Trodden.{left_count, runs_then, timed_steps}
use Rattle.decoder_core.proofs.driver.Driver.step_stops.Goals as goal

pub returns-clause-steps : goal.returns-clause-steps
returns-clause-steps g c =
    let m = g.L.LogicMachine in
    let s = c.args.self.now in
    let strode = c.walk_stops-strode.ensures in
    let over = strode.strides in
    let into = c.walk_stops-strode.new.into in
    let machine = c.walk_stops-strode.new.machine in
    let next = c.walk_stops-strode.new.walk in
    let left = rest_samples c.walk_stops-strode.result.rest in
    let new = c.pass_left.new.self in
    let there = timed_steps g.L.Configured.setup m.outs m.stands m.alts s.machine machine s.waiter c.put.new.self c.walk-walk.result next over.more into
    c.walk-walk.ensures.waits c.walk-walk.ensures.from c.put.ensures.from over.strides (λ list on. c.put.ensures.waits list (subst (λ (l : List Alt). Walks l next list) (sym c.wait.ensures.alts) on))
    (c.put.ensures.alts ∙ c.wait.ensures.alts) in
    let rest = subst (λ (o : List Item → List Out). StepsRuns (Drives m.stands m.alts machine c.put.new.self) (Drives m.stands m.alts new.machine new.waiter) o left c.pass_left.result [])
    (ap (λ setup input. m.outs setup (counted_samples input)) strode.setup) c.pass_left.ensures.steps in
    let Goes = λ (l : List ℕ) (o : List Out). StepsRuns (Drives m.stands m.alts s.machine s.waiter) (Drives m.stands m.alts new.machine new.waiter) (λ input. m.outs (g.L.Configured.setup s.machine) (counted_samples input)) l c.pass_left.result o in
    subst (λ (l : List ℕ). Goes l into) (sym over.split)
    (subst (λ (o : List Out). Goes (over.more ++ left) o) (append-nil into) (runs_then there rest))

pub returns-clause-fewer : goal.returns-clause-fewer
returns-clause-fewer g c = λ some.
    omega (arith, c.walk_stops-strode.ensures.fewer some, c.pass_left.ensures.few, left_count c.pass_left.result)
