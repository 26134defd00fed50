use Rattle.std.proofs.Common.{◌∙◌, ap, sym}
use Rattle.dec_uart.specs.Chain.{any_high}
use Rattle.reference_decoders.specs.Looking.{line_shape}
use Rattle.reference_decoders.proofs.UartLists.{some_high, none_high}
use Rattle.reference_decoders.proofs.uart.seen_at.Goals as goal

pub returns-then-any_high : goal.returns-then-any_high
returns-then-any_high c =
    some_high (line_shape c.args.line) c.args.samples.now c.args.f c.bit_point.result c.bit_point-2.result c.last_bit-bit.result c.bit_point.ensures.place c.bit_point-2.ensures.place c.last_bit-bit.ensures.last
    c.if-first-count.false (sym c.level.ensures ∙ c.if-level.false) c.if-last-count.false c.in_ok-levels.levels.items c.in_ok-levels.ensures (ap any_high (sym c.deref.ensures.value) ∙ sym c.any_high.ensures ∙ c.if-any_high.true)

pub returns-else-any_high : goal.returns-else-any_high
returns-else-any_high c =
    none_high (line_shape c.args.line) c.args.samples.now c.args.f c.bit_point.result c.bit_point-2.result c.last_bit-bit.result c.bit_point.ensures.place c.bit_point-2.ensures.place c.last_bit-bit.ensures.last
    c.if-first-count.false (sym c.level.ensures ∙ c.if-level.false) c.if-last-count.false c.in_ok-levels.levels.items c.in_ok-levels.ensures c.high_from.result (ap any_high (sym c.deref.ensures.value) ∙ sym c.any_high.ensures ∙ c.if-any_high.false) c.high_from.ensures
