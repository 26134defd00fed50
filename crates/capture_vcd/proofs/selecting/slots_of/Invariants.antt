use Rattle.std.proofs.Common.{◌≡◌, map, take}
use Rattle.capture_vcd.specs.Slots.{slot_at}
use Rattle.capture_vcd.proofs.selecting.slots_of.Given as goal

abbrev pub invariant-loop-pin : goal.invariant-loop-pin
invariant-loop-pin l = l.slots.items ≡ map (slot_at l.places l.none) (take l.pin-index l.pins)
