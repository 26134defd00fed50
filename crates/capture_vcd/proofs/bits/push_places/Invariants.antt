use Rattle.std.proofs.Common.{◌≡◌, ◌++◌}
use Rattle.capture_vcd.specs.Places.{places_of}
use Rattle.capture_vcd.proofs.bits.push_places.Given as goal

abbrev pub invariant-loop-bit : goal.invariant-loop-bit
invariant-loop-bit l = l.places.items ≡ l.fn.places.items ++ places_of l.variable l.bit
