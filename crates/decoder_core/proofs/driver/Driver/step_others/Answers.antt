use Rattle.std.proofs.Common.{◌≡◌, ℕ, List, take, ap, subst, arith}
use Rattle.la_base.specs.Runs.{samples_of}
use Rattle.la_base.specs.declared.wires.Out.{Out}
use Rattle.decoder_core.specs.Driving.{Drives, StepsRuns}
use Rattle.decoder_core.specs.Inputs.{Item, counted_samples}
use Rattle.decoder_core.specs.declared.driver.Driver.{Driver}
use Rattle.decoder_core.proofs.Trodden.{runs_behind}
use Rattle.decoder_core.proofs.driver.Driver.step_others.Goals as goal
use Rattle.decoder_core.proofs.driver.Driver.step_others.Goals.{then-is_exact+else-taken-gt0, else-is_exact}

pub returns-clause-steps : goal.returns-clause-steps
returns-clause-steps g c =
    let m = g.L.LogicMachine in
    let s = c.args.self.now in
    let last = c.step_any.new.self in
    let Goes = λ (d : Driver g.row.L.Denot g.row.L-Setup.Denot) (o : List Item → List Out). StepsRuns (Drives m.stands m.alts d.machine d.waiter) (Drives m.stands m.alts last.machine last.waiter) o
    (samples_of (take c.step_any.result.count c.args.runs.now)) c.step_any.result.rest c.step_any.new.into in
    let all = λ (d : Driver g.row.L.Denot g.row.L-Setup.Denot) (is : c.if-is_exact.self ≡ d). subst (λ (x : Driver g.row.L.Denot g.row.L-Setup.Denot). Goes x (λ input. m.outs (g.L.Configured.setup x.machine) (counted_samples input))) is c.step_any.ensures.steps in
    elim c.if-is_exact.branch [
      | then-is_exact+else-taken-gt0 w ↦
          let taken = w.step_exact-taken.ensures in
          let mid = w.step_exact-taken.new.self in
          let zero : w.step_exact-taken.result.count ≡ 0 = omega (arith, w.if-taken-gt0.false) in
          runs_behind (ap (λ (n : ℕ). samples_of (take n c.args.runs.now)) zero)
          taken.steps
          (subst (λ (o : List Item → List Out). Goes mid o) (ap (λ setup input. m.outs setup (counted_samples input)) taken.setup) (all mid w.self-is))
      | else-is_exact w ↦ all s w.self-is
    ]
