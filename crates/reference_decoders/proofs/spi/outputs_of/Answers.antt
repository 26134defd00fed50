use Rattle.std.proofs.Common.{◌∙◌, List, ap}
use Rattle.std.specs.List.{flat_map}
use Rattle.std.proofs.lemmas.List.{take_all}
use Rattle.list_cuts.specs.Kept.{kept}
use Rattle.list_cuts.specs.Parts.{parts_between}
use Rattle.list_cuts.specs.declared.parts.Part.{Part}
use Rattle.dec_spi.specs.Bus.{begins, ends, stretch_outs}
use Rattle.reference_decoders.specs.declared.spi.Event.{Event}
use Rattle.reference_decoders.specs.Happenings.{meant, meant_part}
use Rattle.reference_decoders.proofs.SpiMaps.{outs_are}
use Rattle.reference_decoders.proofs.spi.outputs_of.Goals as goal

pub returns : goal.returns
returns c =
    let opts = c.args.opts.now in
    c.loop-stretch.invariant
    ∙ ap (λ (l : List (Part Event)). flat_map (λ (p : Part Event). stretch_outs opts (meant_part (kept p))) l) (take_all c.loop-stretch.stretch-index _ c.loop-stretch-test.false ∙ c.deref-stretch-items.ensures.value)
    ∙ outs_are kept c.in_ok-stretches.stretches.items opts c.args.samples.now c.in_ok-events.events.items c.in_ok-events.ensures
    (c.in_ok-stretches.ensures ∙ ap (λ (l : List Event). parts_between (λ (x : Event). begins (meant x)) (λ (x : Event). ends (meant x)) l) c.deref.ensures.value)
