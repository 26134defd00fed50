use Rattle.std.proofs.Common.{◌∙◌, ◌++◌, List, Vec, Global, ap}
use Rattle.std.proofs.lemmas.List.{take_all}
use Rattle.list_cuts.specs.Along.{along}
use Rattle.dec_i2c.specs.Bus.{group_outs, read_from}
use Rattle.reference_decoders.specs.declared.i2c.Event.{Event}
use Rattle.reference_decoders.specs.I2cHappenings.{all_meant}
use Rattle.reference_decoders.proofs.I2cMaps.{told_more, clocks_are}
use Rattle.reference_decoders.proofs.i2c.add_clocks.Goals as goal

pub loop-place-preserved : goal.loop-place-preserved
loop-place-preserved c =
    told_more (group_outs (read_from (all_meant c.args.earlier.now))) c.as_slice-list.result.now c.loop-place.place c.index-list-place.result c.loop-place-test.true c.index-list-place.is
    c.args.outs.now.items c.loop-place.outs.items c.add_group.new.outs.items c.deref.result.now c.loop-place.invariant c.deref.ensures.value c.in_ok-add_group.ensures

pub returns : goal.returns
returns c =
    let old = c.args.outs.now.items in
    let known = read_from (all_meant c.args.earlier.now) in
    c.loop-place.invariant
    ∙ ap (λ (l : List (Vec Event Global)). old ++ along (group_outs known) (all_meant l)) (take_all c.loop-place.place _ c.loop-place-test.false ∙ c.as_slice-list.ensures.value)
    ∙ ap (λ l. old ++ l) (clocks_are known c.in_ok-bytes.bytes.items c.args.clocks.now c.in_ok-bytes.ensures)
