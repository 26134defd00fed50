use Rattle.std.proofs.Common.{◌≡◌, ◌+◌, drop}
use Rattle.dec_uart.specs.Chain.{high_from}
use Rattle.reference_decoders.proofs.uart.high_from.Given as goal

abbrev pub invariant-loop-place : goal.invariant-loop-place
invariant-loop-place l = high_from l.line.opts.rx (l.from + l.place) (drop l.place (drop l.from l.samples)) ≡ high_from l.line.opts.rx l.from (drop l.from l.samples)
