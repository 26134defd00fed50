use Rattle.std.proofs.Common.{◌<◌, ℕ, List, None, ap, length, length-append, take, sym, subst, arith}
use Rattle.std.proofs.lemmas.List.{length-map}
use Rattle.la_base.specs.Runs.{samples_of}
use Rattle.la_base.specs.declared.wires.Out.{Out}
use Rattle.la_base.specs.Samples.{samples}
use Rattle.la_base.proofs.RunLemmas.{count_more, samples_len, samples_more}
use Rattle.decoder_core.specs.Driving.{Drives, StepsRuns}
use Rattle.decoder_core.specs.Inputs.{Item, Sample, counted_samples, left_feed, left_items}
use Rattle.decoder_core.proofs.Trodden.{passes_over, passes_runs, runs_then, step_runs}
use Rattle.decoder_core.proofs.driver.Driver.step_any.Goals as goal

pub returns-then-passed-runs-clause-steps : goal.returns-then-passed-runs-clause-steps
returns-then-passed-runs-clause-steps g c =
    let m = g.L.LogicMachine in
    let s = c.args.self.now in
    let passed = c.pass_runs-passed.ensures in
    let samples = samples_of (take c.pass_runs-passed.result c.args.runs.now) in
    let over = passes_over g.L.Configured.setup m.outs m.stands m.alts g.met.L.LogicMachine.quiet s.machine s.waiter c.pass_runs-passed.new.self samples passed.waits passed.count passed.from passed.alts in
    subst (λ (o : List Out). StepsRuns (Drives m.stands m.alts s.machine s.waiter) (Drives m.stands m.alts s.machine c.pass_runs-passed.new.self) (λ input. m.outs (g.L.Configured.setup s.machine) (counted_samples input)) samples None o) (sym c.requires)
    (passes_runs over)

pub returns-clause-steps : goal.returns-clause-steps
returns-clause-steps g c =
    let m = g.L.LogicMachine in
    let s = c.args.self.now in
    let passed = c.pass_runs-passed.ensures in
    let at = c.pass_runs-passed.result in
    let runs = c.args.runs.now in
    let samples = samples_of (take at runs) in
    let within : at < length runs = omega (arith, c.if-passed-runs.false) in
    let over = passes_over g.L.Configured.setup m.outs m.stands m.alts g.met.L.LogicMachine.quiet s.machine s.waiter c.pass_runs-passed.new.self samples passed.waits passed.count passed.from passed.alts in
    subst (λ (l : List ℕ). StepsRuns (Drives m.stands m.alts s.machine s.waiter) (Drives m.stands m.alts c.look_on.new.self.machine c.look_on.new.self.waiter) (λ input. m.outs (g.L.Configured.setup s.machine) (counted_samples input)) l c.look_on.result c.look_on.new.into)
    (sym (samples_more runs at c.index-runs-passed.result within c.index-runs-passed.is))
    (runs_then (passes_runs over) (step_runs c.look_on.ensures.step))

pub returns-then-passed-runs-clause-fewer : goal.returns-then-passed-runs-clause-fewer
returns-then-passed-runs-clause-fewer g c = λ some. some

pub returns-clause-fewer : goal.returns-clause-fewer
returns-clause-fewer g c = λ some.
    let runs = c.args.runs.now in
    let at = c.pass_runs-passed.result in
    let run = c.index-runs-passed.result in
    let step = c.look_on.ensures.step in
    let within : at < length runs = omega (arith, c.if-passed-runs.false) in
    let more = count_more runs at run within c.index-runs-passed.is in
    let len = length-map (samples run) Sample in
    let whole = samples_len run in
    let split = ap (λ (l : List Item). length l) step.split in
    let both = length-append step.front (left_items (left_feed c.look_on.result)) in
    let front = step.some (omega (arith, len, whole, run.not_empty)) in
    omega (arith, more, len, whole, split, both, front)
