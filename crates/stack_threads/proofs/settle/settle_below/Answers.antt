use Rattle.std.proofs.Common.{◌≡◌, ◌∙◌, ◌<◌, ◌++◌, List, ap, sym, subst, map, get_or, set, length, slice_get, Some, arith}
use Rattle.std.specs.List.{AllZip}
use Rattle.std.proofs.Math.ListN.{length-set}
use Rattle.std.proofs.lemmas.List.{length-map}
use Rattle.std.proofs.lemmas.Option.{slice_get_within}
use Rattle.stage_ring.specs.Link.{tx_link}
use Rattle.stage_run.specs.Stages.{parts_links}
use Rattle.stage_run.specs.declared.stage.Parts.{Parts}
use Rattle.stack_threads.specs.Ties.{Alike, Given, Heard, KnowsPackets, SameBut, given_by, heard_by}
use Rattle.stack_threads.proofs.Tying.{alike_both, alike_set, at_back, at_front, back_put, but_back, put_same, some_same}
use Rattle.stack_threads.proofs.settle.settle_below.Goals as goal

pub settle_child-requires-clause-link : goal.settle_child-requires-clause-link
settle_child-requires-clause-link g c =
    let fr = c.split_at_mut-front.result.0.now in
    let bk = c.split_at_mut-front.result.1.now in
    let e = c.split_at_mut-front.ensures in
    let p = get_or fr c.args.parent c.index-front-parent.result in
    let q = get_or bk 0 c.index-back-0.result in
    let low : c.args.parent < length fr = omega (arith, e.front_len, c.requires.within.0) in
    let some : 0 < length bk = omega (arith, e.back_len, c.requires.within.1) in
    let at_q : slice_get (map parts_links c.args.parts.now) c.args.instance ≡ Some (parts_links q) = ap (λ (l : List (Parts _)). slice_get (map parts_links l) c.args.instance) e.value ∙ at_back parts_links fr bk c.args.instance c.index-back-0.result (sym e.front_len) some in
    let at_p : slice_get (map parts_links c.args.parts.now) c.args.parent ≡ Some (parts_links p) = ap (λ (l : List (Parts _)). slice_get (map parts_links l) c.args.parent) e.value ∙ at_front parts_links fr bk c.args.parent c.index-front-parent.result low in
    c.requires.link (parts_links q) (parts_links p) at_q at_p

pub settle_child-requires-clause-within : goal.settle_child-requires-clause-within
settle_child-requires-clause-within g c =
    let fr = c.split_at_mut-front.result.0.now in
    let p = get_or fr c.args.parent c.index-front-parent.result in
    let l = settle_child-requires-clause-link g c in
    omega (arith, slice_get_within (map tx_link p.children.items) c.args.place _ l.0, length-map p.children.items tx_link)

pub returns-clause-parts : goal.returns-clause-parts
returns-clause-parts g c =
    let fr = c.split_at_mut-front.result.0.now in
    let bk = c.split_at_mut-front.result.1.now in
    let e = c.split_at_mut-front.ensures in
    subst (λ (l : List (Parts _)). AllZip Alike l (set fr c.args.parent c.settle_child.new.parent ++ set bk 0 c.settle_child.new.child)) (sym e.value) (alike_both fr _ bk _ (alike_set fr c.args.parent c.index-front-parent.result _ c.settle_child.ensures.parent) (alike_set bk 0 c.index-back-0.result _ c.settle_child.ensures.child))

pub returns-clause-others : goal.returns-clause-others
returns-clause-others g c =
    let fr = c.split_at_mut-front.result.0.now in
    let bk = c.split_at_mut-front.result.1.now in
    let e = c.split_at_mut-front.ensures in
    let new = set fr c.args.parent c.settle_child.new.parent in
    subst (λ (l : List (Parts _)). SameBut c.args.instance (map heard_by l) (map heard_by (new ++ set bk 0 c.settle_child.new.child))) (sym e.value)
    (but_back heard_by fr new bk c.args.instance c.settle_child.new.child (put_same heard_by fr c.args.parent c.index-front-parent.result c.settle_child.new.parent c.settle_child.ensures.heard) (sym e.front_len))

pub returns-clause-tied : goal.returns-clause-tied
returns-clause-tied g c = λ h above s at_h at_above at_s.
    let fr = c.split_at_mut-front.result.0.now in
    let bk = c.split_at_mut-front.result.1.now in
    let e = c.split_at_mut-front.ensures in
    let p = get_or fr c.args.parent c.index-front-parent.result in
    let low : c.args.parent < length fr = omega (arith, e.front_len, c.requires.within.0) in
    let some : 0 < length bk = omega (arith, e.back_len, c.requires.within.1) in
    let new = set fr c.args.parent c.settle_child.new.parent in
    let long : c.args.instance ≡ length new = omega (arith, e.front_len, length-set fr c.args.parent c.settle_child.new.parent) in
    let is_h : heard_by c.settle_child.new.child ≡ h = some_same (sym (back_put heard_by new bk c.args.instance c.settle_child.new.child long some) ∙ at_h) in
    let is_p : given_by p ≡ above = some_same (sym (ap (λ (l : List (Parts _)). slice_get (map given_by l) c.args.parent) e.value ∙ at_front given_by fr bk c.args.parent c.index-front-parent.result low) ∙ at_above) in
    subst (λ (x : Heard). KnowsPackets x s) is_h (c.settle_child.ensures.tied s (ap (λ (x : Given). slice_get x.children c.args.place) is_p ∙ at_s))
