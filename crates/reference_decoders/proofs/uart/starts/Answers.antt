use Rattle.std.proofs.Common.{◌∙◌, arith}
use Rattle.reference_decoders.specs.Looking.{line_shape}
use Rattle.reference_decoders.proofs.UartLists.{fall_early}
use Rattle.reference_decoders.proofs.uart.starts.Goals as goal

pub add_start-requires-clause-early : goal.add_start-requires-clause-early
add_start-requires-clause-early c =
    let early = fall_early (line_shape c.args.line) c.args.samples.now c.deref-f-items.result.now c.loop-f.f-index 0 (c.deref-f-items.ensures.value ∙ c.in_ok-falls.ensures) c.loop-f-test.true in
    omega (arith, early, c.requires)
