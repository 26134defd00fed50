use Rattle.std.proofs.Common.{◌∷◌, ◌+◌, ◌∙◌, ◌<◌, [], ℕ, List, false, take, drop, refl, sym, subst}
use Rattle.std.proofs.lemmas.List.{take_all}
use Rattle.la_base.specs.declared.wires.Mark.{Mark}
use Rattle.tree_io.specs.Feeds.{real}
use Rattle.tree_io.proofs.Taking.{real_next, real_split}
use Rattle.annot_merge.specs.Held.{count_of}
use Rattle.note_lister.specs.Pushing.{PushesFront, PushesMarks, TellsSome}
use Rattle.note_lister.proofs.PushLemmas.{front_behind, pushes_nothing, pushes_then, tells_none, tells_then}
use Rattle.note_lister.proofs.pushing.push_marks.Goals as goal

pub loop-mark-init : goal.loop-mark-init
loop-mark-init c =
    let old = c.args.merge.now in
    record { within = c.requires; count = refl; pushes = pushes_nothing old c.args.instance; some = tells_none old }

pub push_some-requires : goal.push_some-requires
push_some-requires c = c.loop-mark.invariant.within

pub loop-mark-preserved : goal.loop-mark-preserved
loop-mark-preserved c =
    let i = c.loop-mark.invariant in
    let e = c.in-Ok.ensures in
    let n = c.loop-mark.mark-index in
    let old = c.args.merge.now in
    let mid = c.loop-mark.merge in
    let new = c.push_some.new.merge in
    let had = real (take n c.args.marks.now) in
    let one = real (c.mark-item.result ∷ []) in
    let next = real_next c.args.marks.now n c.mark-item.result c.loop-mark-test.true c.mark-item.is in
    record {
      within = subst (λ (n : ℕ). c.args.instance < n) (sym e.count) i.within;
      count = e.count ∙ i.count;
      pushes = pushes_then old mid new c.args.instance had one (real (take (n + 1) c.args.marks.now)) i.pushes (subst (λ (l : List Mark). PushesMarks mid new c.args.instance l) c.real_of.ensures e.pushes) next;
      some = tells_then c.loop-mark.some c.in-Ok.now old mid new had one (real (take (n + 1) c.args.marks.now)) i.some (subst (λ (l : List Mark). TellsSome c.loop-mark.some c.in-Ok.now mid new l) c.real_of.ensures e.some) next;
    }

pub returns-in-Err-clause-count : goal.returns-in-Err-clause-count
returns-in-Err-clause-count c = c.in-Err.ensures.count ∙ c.loop-mark.invariant.count

pub returns-in-Err-clause-front : goal.returns-in-Err-clause-front
returns-in-Err-clause-front c =
    let i = c.loop-mark.invariant in
    let n = c.loop-mark.mark-index in
    let mid = c.loop-mark.merge in
    let new = c.push_some.new.merge in
    front_behind c.args.merge.now mid new c.args.instance (real (take n c.args.marks.now)) (real (c.mark-item.result ∷ [])) (real (drop (n + 1) c.args.marks.now)) (real c.args.marks.now) i.pushes
    (subst (λ (l : List Mark). PushesFront mid new c.args.instance l) c.real_of.ensures c.in-Err.ensures.front) (real_split c.args.marks.now n c.mark-item.result c.loop-mark-test.true c.mark-item.is)

pub returns-clause-pushes : goal.returns-clause-pushes
returns-clause-pushes c =
    let l = c.loop-mark in
    subst (λ (xs : List Mark). PushesMarks c.args.merge.now l.merge c.args.instance (real xs)) (take_all l.mark-index c.args.marks.now c.loop-mark-test.false) l.invariant.pushes

pub returns-clause-some : goal.returns-clause-some
returns-clause-some c =
    let l = c.loop-mark in
    subst (λ (xs : List Mark). TellsSome false l.some c.args.merge.now l.merge (real xs)) (take_all l.mark-index c.args.marks.now c.loop-mark-test.false) l.invariant.some
