use Rattle.la_base.specs.declared.wires.Feed.TheVariants.{Run as RunFeed}
use Rattle.decoder_core.specs.Inputs.{left_feed}
use Rattle.stack_direct.proofs.Places.{same_setups, steps_at}
use Rattle.stack_direct.proofs.parts.step_run_at.Goals as goal

pub returns-clause-setups : goal.returns-clause-setups
returns-clause-setups g c = let m = g.M.Machine in same_setups m.setup m.consumed m.outputs c.args.machines.now c.args.instance c.index-machines-instance.result c.step_run.new.self c.step_run.ensures.setup

pub returns-clause-step : goal.returns-clause-step
returns-clause-step g c = let m = g.M.Machine in steps_at m.setup m.consumed m.outputs c.args.machines.now c.args.instance c.requires.within c.index-machines-instance.result c.step_run.new.self (RunFeed c.args.run) (left_feed c.step_run.result) c.step_run.new.into c.step_run.ensures.step
