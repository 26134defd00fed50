use Rattle.std.proofs.Common.{◌∙◌, List, ℕ, ap, arith}
use Rattle.std.proofs.lemmas.List.{take_all}
use Rattle.dec_uart.specs.Chain.{frames_outs}
use Rattle.reference_decoders.specs.Looking.{line_shape}
use Rattle.reference_decoders.proofs.UartLists.{start_early, frames_are}
use Rattle.reference_decoders.proofs.uart.outputs_of.Goals as goal

pub seen_at-requires-clause-early : goal.seen_at-requires-clause-early
seen_at-requires-clause-early c =
    let early = start_early (line_shape c.args.line) c.args.samples.now c.deref-f-items.result.now c.loop-f.f-index 0 (c.deref-f-items.ensures.value ∙ c.in_ok-starts.ensures) c.loop-f-test.true in
    omega (arith, early, c.requires)

pub add_look-requires : goal.add_look-requires
add_look-requires c =
    let early = start_early (line_shape c.args.line) c.args.samples.now c.deref-f-items.result.now c.loop-f.f-index 0 (c.deref-f-items.ensures.value ∙ c.in_ok-starts.ensures) c.loop-f-test.true in
    omega (arith, early, c.requires)

pub returns : goal.returns
returns c =
    c.loop-f.invariant
    ∙ ap (λ (l : List ℕ). frames_outs (line_shape c.args.line) c.args.samples.now l) (take_all c.loop-f.f-index _ c.loop-f-test.false)
    ∙ frames_are (line_shape c.args.line) c.args.samples.now _ (c.deref-f-items.ensures.value ∙ c.in_ok-starts.ensures)
