use Rattle.std.proofs.Common.{◌≡◌, take}
use Rattle.dec_uart.specs.Chain.{frames_outs}
use Rattle.reference_decoders.specs.Looking.{line_shape}
use Rattle.reference_decoders.proofs.uart.outputs_of.Given as goal

abbrev pub invariant-loop-f : goal.invariant-loop-f
invariant-loop-f l = l.outs.items ≡ frames_outs (line_shape l.line) l.samples (take l.f-index l.f-items)
