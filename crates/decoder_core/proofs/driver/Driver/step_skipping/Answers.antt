use Rattle.std.proofs.Common.{[], List, None, refl, sym, subst}
use Rattle.la_base.specs.declared.wires.Out.{Out}
use Rattle.decoder_core.specs.Driving.{Drives, StepsRuns}
use Rattle.decoder_core.specs.Inputs.{counted_samples}
use Rattle.decoder_core.proofs.Trodden.{rests_runs}
use Rattle.decoder_core.proofs.driver.Driver.step_skipping.Goals as goal

pub returns-then-not-is_some-clause-steps : goal.returns-then-not-is_some-clause-steps
returns-then-not-is_some-clause-steps g c =
    let m = g.L.LogicMachine in
    let s = c.args.self.now in
    subst (λ (o : List Out). StepsRuns (Drives m.stands m.alts s.machine s.waiter) (Drives m.stands m.alts s.machine s.waiter) (λ input. m.outs (g.L.Configured.setup s.machine) (counted_samples input)) [] None o) (sym c.requires) (rests_runs refl)

pub returns-then-consumed-eq0-clause-steps : goal.returns-then-consumed-eq0-clause-steps
returns-then-consumed-eq0-clause-steps g c =
    let m = g.L.LogicMachine in
    let s = c.args.self.now in
    subst (λ (o : List Out). StepsRuns (Drives m.stands m.alts s.machine s.waiter) (Drives m.stands m.alts s.machine s.waiter) (λ input. m.outs (g.L.Configured.setup s.machine) (counted_samples input)) [] None o) (sym c.requires) (rests_runs refl)
