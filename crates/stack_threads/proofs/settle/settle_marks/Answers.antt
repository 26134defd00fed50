use Rattle.std.proofs.Common.{◌≡◌, ◌∙◌, sym, subst, get_or, refl}
use Rattle.la_base.specs.declared.wires.Mark.{Mark}
use Rattle.stage_ring.specs.Link.{received, rx_link}
use Rattle.stage_run.specs.Stages.{parts_links}
use Rattle.stack_threads.specs.Ties.{AllKnown, Given, Got, given_by, got_on, heard_by, sent_on}
use Rattle.stack_threads.proofs.Tying.{alike_set, at_place, but_put, get_map, get_put, known_all, marks_alike, put_same, same_sent, some_same}
use Rattle.stack_threads.proofs.settle.settle_marks.Goals as goal

pub settle-requires-after_bounds : goal.settle-requires-after_bounds
settle-requires-after_bounds g c κs =
    let ps = c.args.parts.now in
    let k = c.args.instance in
    sym (at_place rx_link c.args.marks.now k c.index-marks-instance.result _ c.requires.within.1 (c.requires.link (parts_links (get_or ps k c.index-parts-instance.result)) (get_map parts_links ps k c.index-parts-instance.result c.requires.within.0)))

pub returns-clause-parts : goal.returns-clause-parts
returns-clause-parts g c =
    let ps = c.args.parts.now in
    let k = c.args.instance in
    let e = c.settle.ensures.tx in
    let p = get_or ps k c.index-parts-instance.result in
    alike_set ps k c.index-parts-instance.result _ (marks_alike p c.settle.new.tx (same_sent p.marks c.settle.new.tx e.2 e.1) e.0)

pub returns-clause-heard : goal.returns-clause-heard
returns-clause-heard g c = put_same heard_by c.args.parts.now c.args.instance c.index-parts-instance.result _ refl

pub returns-clause-marks : goal.returns-clause-marks
returns-clause-marks g c =
    let ms = c.args.marks.now in
    let d = c.index-marks-instance.result in
    (put_same received ms c.args.instance d c.settle.new.rx c.settle.ensures.rx.1, put_same rx_link ms c.args.instance d c.settle.new.rx c.settle.ensures.rx.0)

pub returns-clause-others : goal.returns-clause-others
returns-clause-others g c = but_put got_on c.args.marks.now c.args.instance c.settle.new.rx

pub returns-clause-tied : goal.returns-clause-tied
returns-clause-tied g c = λ given m at_g at_m.
    let ps = c.args.parts.now in
    let k = c.args.instance in
    let p = get_or ps k c.index-parts-instance.result in
    let e = c.settle.ensures in
    let same : got_on c.settle.new.rx ≡ m = some_same (sym (get_put got_on c.args.marks.now k c.settle.new.rx c.requires.within.1) ∙ at_m) in
    subst (λ (x : Given). AllKnown m x.marks) (at_place given_by ps k c.index-parts-instance.result given c.requires.within.0 at_g)
    (subst (λ (x : Got Mark). AllKnown x (sent_on p.marks)) same (known_all c.settle.new.rx p.marks c.settle.new.tx e.tied e.between e.tx.2 e.tx.1))
