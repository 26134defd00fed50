use Rattle.std.proofs.Common.{◌≡◌, ◌++◌}
use Rattle.capture_vcd.specs.Header.{bit_names}
use Rattle.capture_vcd.proofs.bits.push_bits.Given as goal

abbrev pub invariant-loop-bit : goal.invariant-loop-bit
invariant-loop-bit l = l.names ≡ l.fn.names ++ bit_names l.reference l.bit
