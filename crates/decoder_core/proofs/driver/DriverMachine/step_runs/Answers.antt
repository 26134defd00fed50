use Rattle.std.proofs.Common.{◌≡◌, ℕ, List, take, ap, subst, arith}
use Rattle.la_base.specs.Runs.{samples_of}
use Rattle.decoder_core.specs.Driving.{Drives, StepsRuns}
use Rattle.decoder_core.specs.Inputs.{Item, counted_samples}
use Rattle.la_base.specs.declared.wires.Out.{Out}
use Rattle.decoder_core.proofs.Trodden.{runs_behind}
use Rattle.decoder_core.proofs.driver.DriverMachine.step_runs.Goals as goal

pub returns-clause-steps : goal.returns-clause-steps
returns-clause-steps g c =
    let m = g.L.LogicMachine in
    let taken = c.step_skipping-taken.ensures in
    let mid = c.step_skipping-taken.new.self in
    let last = c.step_others.new.self in
    let zero : c.step_skipping-taken.result.count ≡ 0 = omega (arith, c.if-taken-gt0.false) in
    runs_behind (ap (λ (n : ℕ). samples_of (take n c.args.runs.now)) zero) taken.steps
    (subst (λ (o : List Item → List Out). StepsRuns (Drives m.stands m.alts mid.machine mid.waiter) (Drives m.stands m.alts last.machine last.waiter) o
    (samples_of (take c.step_others.result.count c.args.runs.now)) c.step_others.result.rest c.step_others.new.into)
    (ap (λ setup input. m.outs setup (counted_samples input)) taken.setup) c.step_others.ensures.steps)
