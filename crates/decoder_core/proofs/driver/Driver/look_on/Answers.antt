use Rattle.std.proofs.Common.{refl, ap, subst, List}
use Rattle.la_base.specs.Samples.{samples}
use Rattle.la_base.specs.declared.wires.Feed.TheVariants.{Run as RunFeed}
use Rattle.la_base.specs.declared.wires.Out.{Out}
use Rattle.decoder_core.specs.Inputs.{Item, counted_samples}
use Rattle.decoder_core.specs.Driving.{Drives, Passes, Sleeps}
use Rattle.decoder_core.proofs.Joining.{steps_on, reaches_end}
use Rattle.decoder_core.proofs.driver.Driver.look_on.Goals as goal

-- what was left of the run is passed
pub returns-then-pass_rest-clause-step : goal.returns-then-pass_rest-clause-step
returns-then-pass_rest-clause-step g c =
    let m = g.L.LogicMachine in
    let s = c.args.self.now in
    let mid = c.look.new.self in
    let new = c.pass_rest.new.self in
    steps_on (Drives m.stands m.alts s.machine s.waiter) (Drives m.stands m.alts mid.machine mid.waiter) (Drives m.stands m.alts new.machine new.waiter) (λ input. m.outs (g.L.Configured.setup s.machine) (counted_samples input)) (RunFeed c.args.run) c.in-Some.rest c.look.new.into
    c.in-Some.ensures.step
    (subst (λ (outputs : List Item → List Out). Passes (Drives m.stands m.alts mid.machine mid.waiter) (Drives m.stands m.alts new.machine new.waiter) outputs (samples c.in-Some.rest))
    (ap (λ setup input. m.outs setup (counted_samples input)) c.look.ensures.setup) (c.if-pass_rest.ensures.passes refl))

pub returns-then-pass_rest-clause-stops : goal.returns-then-pass_rest-clause-stops
returns-then-pass_rest-clause-stops g c =
    let m = g.L.LogicMachine in
    let s = c.args.self.now in
    reaches_end (Drives m.stands m.alts s.machine s.waiter) (Sleeps m.alts s.machine s.waiter) (RunFeed c.args.run)
