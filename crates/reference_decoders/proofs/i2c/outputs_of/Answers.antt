use Rattle.std.proofs.Common.{◌∙◌, List, Vec, Global, [], ap}
use Rattle.std.proofs.lemmas.List.{take_all}
use Rattle.list_cuts.specs.Along.{along}
use Rattle.list_cuts.specs.Parts.{parts}
use Rattle.dec_i2c.specs.Bus.{is_mark, part_outs}
use Rattle.reference_decoders.specs.declared.i2c.Event.{Event}
use Rattle.reference_decoders.specs.I2cHappenings.{meant, all_meant}
use Rattle.reference_decoders.proofs.I2cMaps.{told_more, outs_are}
use Rattle.reference_decoders.proofs.i2c.outputs_of.Goals as goal

pub loop-place-preserved : goal.loop-place-preserved
loop-place-preserved c =
    told_more part_outs c.as_slice-list.result.now c.loop-place.place c.index-list-place.result c.loop-place-test.true c.index-list-place.is
    [] c.loop-place.outs.items c.add_part.new.outs.items c.deref-in-loop-place.result.now c.loop-place.invariant c.deref-in-loop-place.ensures.value c.in_ok-add_part.ensures

pub returns : goal.returns
returns c =
    c.loop-place.invariant
    ∙ ap (λ (l : List (Vec Event Global)). along part_outs (all_meant l)) (take_all c.loop-place.place _ c.loop-place-test.false ∙ c.as_slice-list.ensures.value)
    ∙ outs_are c.args.opts c.args.samples.now c.in_ok-events.events.items c.in_ok-parts.parts.items c.in_ok-events.ensures
    (c.in_ok-parts.ensures ∙ ap (λ (l : List Event). parts (λ (e : Event). is_mark (meant e)) l) c.deref.ensures.value)
