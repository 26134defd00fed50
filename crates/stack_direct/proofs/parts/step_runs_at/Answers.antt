use Rattle.std.proofs.Common.{take}
use Rattle.la_base.specs.Runs.{samples_of}
use Rattle.stack_direct.proofs.Places.{runs_at, same_setups}
use Rattle.stack_direct.proofs.parts.step_runs_at.Goals as goal

pub returns-clause-setups : goal.returns-clause-setups
returns-clause-setups g c = let m = g.M.Machine in same_setups m.setup m.consumed m.outputs c.args.machines.now c.args.instance c.index-machines-instance.result c.step_runs.new.self c.step_runs.ensures.setup

pub returns-clause-steps : goal.returns-clause-steps
returns-clause-steps g c =
    let m = g.M.Machine in
    let taken = c.step_runs.result in
    runs_at m.setup m.consumed m.outputs c.args.machines.now c.args.instance c.requires.within c.index-machines-instance.result c.step_runs.new.self (samples_of (take taken.count c.args.runs.now)) taken.rest c.step_runs.new.into c.step_runs.ensures.steps
