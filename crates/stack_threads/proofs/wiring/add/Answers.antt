use Rattle.stack_threads.specs.declared.wiring.StageEnds.{StageEnds}
use Rattle.stack_threads.proofs.Joining.{grown}
use Rattle.stack_threads.proofs.wiring.add.Goals as goal

pub returns : goal.returns
returns c =
    let e : StageEnds = record { input = c.in_ok-input.input; children = c.new.result; marks = c.in_ok-sends.sends } in
    grown c.args.parent c.args.rooms c.args.wires.now _ c.join.new.ends.items e c.in_ok-sends.receives c.in_ok-input.ensures c.in_ok-push.ensures.items c.in_ok-push-2.ensures.items c.new.ensures.items c.in_ok-sends.ensures
