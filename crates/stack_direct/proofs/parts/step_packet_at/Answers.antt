use Rattle.la_base.specs.declared.wires.Feed.TheVariants.{Packet as PacketFeed}
use Rattle.stack_direct.proofs.Places.{same_setups, steps_at}
use Rattle.stack_direct.proofs.parts.step_packet_at.Goals as goal

pub returns-clause-setups : goal.returns-clause-setups
returns-clause-setups g c = let m = g.M.Machine in same_setups m.setup m.consumed m.outputs c.args.machines.now c.args.instance c.index-machines-instance.result c.step.new.self c.step.ensures.setup

pub returns-clause-step : goal.returns-clause-step
returns-clause-step g c = let m = g.M.Machine in steps_at m.setup m.consumed m.outputs c.args.machines.now c.args.instance c.requires.within c.index-machines-instance.result c.step.new.self (PacketFeed c.args.packet) c.step.result c.step.new.into c.step.ensures.step
