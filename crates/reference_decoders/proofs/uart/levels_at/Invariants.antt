use Rattle.std.proofs.Common.{◌≡◌}
use Rattle.dec_uart.specs.Chain.{levels_at}
use Rattle.reference_decoders.specs.Looking.{line_shape}
use Rattle.reference_decoders.proofs.uart.levels_at.Given as goal

abbrev pub invariant-loop-i : goal.invariant-loop-i
invariant-loop-i l = l.levels.items ≡ levels_at (line_shape l.line) l.samples l.f l.i
