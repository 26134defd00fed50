use Rattle.std.proofs.Common.{[], List, None, ap, subst, ℕ, refl, sym}
use Rattle.wait_cond.specs.Waiting.{rest_samples}
use Rattle.decoder_core.specs.Driving.{Drives, StepsRuns}
use Rattle.decoder_core.specs.Inputs.{counted_samples}
use Rattle.decoder_core.proofs.Trodden.{passes_runs}
use Rattle.decoder_core.proofs.driver.Driver.pass_left.Goals as goal

pub returns-then-pass_rest-clause-steps : goal.returns-then-pass_rest-clause-steps
returns-then-pass_rest-clause-steps g c =
    let m = g.L.LogicMachine in
    let s = c.args.self.now in
    let new = c.pass_rest.new.self in
    subst (λ (l : List ℕ). StepsRuns (Drives m.stands m.alts s.machine s.waiter) (Drives m.stands m.alts new.machine new.waiter) (λ input. m.outs (g.L.Configured.setup s.machine) (counted_samples input)) l None [])
    (sym (ap rest_samples c.in-Some.is)) (passes_runs (c.if-pass_rest.ensures.passes refl))
