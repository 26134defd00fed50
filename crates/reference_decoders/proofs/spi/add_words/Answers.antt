use Rattle.std.proofs.Common.{◌<◌, get_or, ◌∙◌, ◌++◌, List, Vec, Global, ap, map, refl, subst, arith, length}
use Rattle.std.specs.List.{flat_map}
use Rattle.std.proofs.lemmas.List.{take_all}
use Rattle.dec_spi.specs.Bus.{group_outs}
use Rattle.reference_decoders.specs.declared.spi.Event.{Event}
use Rattle.reference_decoders.specs.Happenings.{meant}
use Rattle.reference_decoders.proofs.SpiMaps.{group_few, words_are}
use Rattle.reference_decoders.proofs.spi.add_words.Goals as goal

pub add_group-requires-clause-few : goal.add_group-requires-clause-few
add_group-requires-clause-few c =
    let groups = c.in_ok-groups.groups.items in
    let all = c.deref-group-items.ensures.value in
    let within = subst (λ (l : List (Vec Event Global)). c.loop-group.group-index < length l) all c.loop-group-test.true in
    let few = group_few (λ (g : Vec Event Global). g.items) groups _ c.args.clocks.now c.in_ok-groups.ensures c.loop-group.group-index c.group-item.result within in
    let is = c.group-item.is ∙ ap (λ (l : List (Vec Event Global)). get_or l c.loop-group.group-index c.group-item.result) all in
    let len = ap (λ (l : List Event). length l) c.deref.ensures.value ∙ ap (λ (g : Vec Event Global). length g.items) is ∙ few in
    omega (arith, len, c.requires.bits)

pub returns : goal.returns
returns c =
    let old = c.args.outs.now.items in
    let opts = c.args.opts.now in
    c.loop-group.invariant
    ∙ ap (λ (l : List (Vec Event Global)). old ++ flat_map (λ (g : Vec Event Global). group_outs opts (map meant g.items)) l) (take_all c.loop-group.group-index _ c.loop-group-test.false ∙ c.deref-group-items.ensures.value)
    ∙ ap (λ l. old ++ l) (words_are (λ (g : Vec Event Global). g.items) c.in_ok-groups.groups.items _ c.args.clocks.now c.in_ok-groups.ensures opts refl)
