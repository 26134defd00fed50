use Rattle.reference_decoders.specs.Looking.{line_shape}
use Rattle.reference_decoders.proofs.UartLists.{levels_more}
use Rattle.reference_decoders.proofs.uart.levels_at.Goals as goal

pub loop-i-preserved : goal.loop-i-preserved
loop-i-preserved c = levels_more (line_shape c.args.line) c.args.samples.now c.args.f c.loop-i.i c.loop-i.levels.items _ c.level.result c.bit_point.result c.loop-i.invariant c.bit_point.ensures.place c.level.ensures c.in_ok-push.ensures.items
