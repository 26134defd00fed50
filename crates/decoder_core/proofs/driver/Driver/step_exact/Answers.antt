use Rattle.std.proofs.Common.{◌-◌, ◌++◌, [], ℕ, List, None, replicate, sym, ◌∙◌, ap, arith, subst}
use Rattle.std.proofs.lemmas.List.{append-nil}
use Rattle.la_base.specs.declared.wires.Out.{Out}
use Rattle.decoder_core.specs.Driving.{Drives, StepsRuns}
use Rattle.decoder_core.specs.Inputs.{Item, counted_samples}
use Rattle.decoder_core.proofs.Trodden.{is_false, is_true, runs_then, samples_behind, walk_steps}
use Rattle.decoder_core.proofs.driver.Driver.step_exact.Goals as goal

pub returns-then-not-walked-clause-steps : goal.returns-then-not-walked-clause-steps
returns-then-not-walked-clause-steps g c =
    let m = g.L.LogicMachine in
    let s = c.args.self.now in
    let walked = c.walk_runs-walked.ensures in
    let same = is_false c.walk_runs-walked.result.anew c.if-not-walked.true in
    subst (λ (l : List ℕ). StepsRuns (Drives m.stands m.alts s.machine s.waiter) (Drives m.stands m.alts c.walk_runs-walked.new.machine c.put.new.self) (λ input. m.outs (g.L.Configured.setup s.machine) (counted_samples input)) l None c.walk_runs-walked.new.into)
    (sym (walked.treads.whole same))
    (walk_steps g.L.Configured.setup m.outs m.stands m.alts s.machine c.walk_runs-walked.new.machine s.waiter c.put.new.self c.walk-walk.result c.walk_runs-walked.new.walk walked.treads.more c.walk_runs-walked.new.into
    c.walk-walk.ensures.waits c.walk-walk.ensures.from c.put.ensures.from c.pair-pair.result (record { says = c.pair-pair.ensures.says; stands = c.pair-pair.ensures.stands }) walked.treads.treads c.put.ensures.waits
    (λ cond. c.put.ensures.alts ∙ cond ∙ sym (walked.alts same)))

pub wait-requires : goal.wait-requires
wait-requires g c = c.put.ensures.from ∙ c.walk_runs-walked.ensures.there (is_true c.walk_runs-walked.result.anew c.if-not-walked.false) ∙ sym c.put.ensures.consumed

pub returns-clause-steps : goal.returns-clause-steps
returns-clause-steps g c =
    let m = g.L.LogicMachine in
    let s = c.args.self.now in
    let walked = c.walk_runs-walked.ensures in
    let treads = walked.treads in
    let into = c.walk_runs-walked.new.into in
    let machine = c.walk_runs-walked.new.machine in
    let run = c.index-runs-walked.result in
    let new = c.pass_behind.new.self in
    let there = walk_steps g.L.Configured.setup m.outs m.stands m.alts s.machine machine s.waiter c.wait.new.waiter c.walk-walk.result c.walk_runs-walked.new.walk treads.more into
    c.walk-walk.ensures.waits c.walk-walk.ensures.from (c.wait.ensures.from ∙ c.put.ensures.from) c.pair-pair.result (record { says = c.pair-pair.ensures.says; stands = c.pair-pair.ensures.stands }) treads.treads (λ list on. c.wait.ensures.waits list (c.put.ensures.waits list on))
    (λ cond. c.wait.ensures.alts) in
    let rest = subst (λ (o : List Item → List Out). StepsRuns (Drives m.stands m.alts machine c.wait.new.waiter) (Drives m.stands m.alts new.machine new.waiter) o (replicate (run.len - 1) run.value) c.pass_behind.result [])
    (ap (λ setup input. m.outs setup (counted_samples input)) walked.setup) c.pass_behind.ensures.steps in
    let Goes = λ (l : List ℕ) (o : List Out). StepsRuns (Drives m.stands m.alts s.machine s.waiter) (Drives m.stands m.alts new.machine new.waiter) (λ input. m.outs (g.L.Configured.setup s.machine) (counted_samples input)) l c.pass_behind.result o in
    subst (λ (l : List ℕ). Goes l into) (sym (treads.front (is_true c.walk_runs-walked.result.anew c.if-not-walked.false) run c.index-runs-walked.is))
    (subst (λ (o : List Out). Goes (treads.more ++ replicate (run.len - 1) run.value) o) (append-nil into) (runs_then there rest))

pub returns-then-not-walked-clause-fewer : goal.returns-then-not-walked-clause-fewer
returns-then-not-walked-clause-fewer g c = λ some. some

pub returns-clause-fewer : goal.returns-clause-fewer
returns-clause-fewer g c = λ some.
    let runs = c.args.runs.now in
    let run = c.index-runs-walked.result in
    let all = samples_behind runs c.walk_runs-walked.result.count run c.index-runs-walked.is c.walk_runs-walked.ensures.within some in
    omega (arith, all, run.not_empty, c.pass_behind.ensures.few)
