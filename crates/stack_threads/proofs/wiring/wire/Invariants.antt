use Rattle.std.proofs.Common.{take}
use Rattle.stack_threads.specs.Wires.{AreWired}
use Rattle.stack_threads.proofs.wiring.wire.Given as goal

abbrev pub invariant-loop-parent : goal.invariant-loop-parent
invariant-loop-parent l = AreWired l.rooms (take l.parent-index l.parents) l.wires
