use Rattle.std.proofs.Common.{◌≡◌, ◌++◌, map, take, drop}
use Rattle.capture_vcd.specs.Slots.{valued}
use Rattle.capture_vcd.proofs.slots.set_values.Given as goal

abbrev pub invariant-loop-slot : goal.invariant-loop-slot
invariant-loop-slot l = l.slots ≡ map (valued l.digits) (take l.slot-index l.fn.slots) ++ drop l.slot-index l.fn.slots
