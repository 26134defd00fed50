use Rattle.std.proofs.Common.{◌≡◌, ◌++◌, drop}
use Rattle.dec_uart.specs.Chain.{starts, starts_from}
use Rattle.reference_decoders.specs.Looking.{line_shape}
use Rattle.reference_decoders.proofs.uart.starts.Given as goal

abbrev pub invariant-loop-f : goal.invariant-loop-f
invariant-loop-f l = l.starts.items ++ starts_from (line_shape l.line) l.samples l.from (drop l.f-index l.f-items) ≡ starts (line_shape l.line) l.samples
