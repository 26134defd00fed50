use Rattle.std.proofs.Common.{◌∷◌, ◌+◌, ◌∙◌, ◌<◌, [], ℕ, List, false, take, drop, refl, sym, subst}
use Rattle.std.proofs.lemmas.List.{take_all}
use Rattle.la_base.specs.declared.wires.Mark.{Mark}
use Rattle.la_base.specs.declared.wires.Out.{Out}
use Rattle.tree_io.specs.Feeds.{marks_of}
use Rattle.tree_io.proofs.Taking.{marks_next, marks_split}
use Rattle.annot_merge.specs.Held.{count_of}
use Rattle.note_lister.specs.Pushing.{PushesFront, PushesMarks, TellsSome}
use Rattle.note_lister.proofs.PushLemmas.{front_behind, pushes_nothing, pushes_then, tells_none, tells_then}
use Rattle.note_lister.proofs.pushing.push_outs.Goals as goal

pub loop-out-init : goal.loop-out-init
loop-out-init c =
    let old = c.args.merge.now in
    record { within = c.requires; count = refl; pushes = pushes_nothing old c.args.instance; some = tells_none old }

pub push_some-requires : goal.push_some-requires
push_some-requires c = c.loop-out.invariant.within

pub loop-out-preserved : goal.loop-out-preserved
loop-out-preserved c =
    let i = c.loop-out.invariant in
    let e = c.in-Ok.ensures in
    let n = c.loop-out.out-index in
    let old = c.args.merge.now in
    let mid = c.loop-out.merge in
    let new = c.push_some.new.merge in
    let had = marks_of (take n c.args.outs.now) in
    let one = marks_of (c.out-item.result ∷ []) in
    let next = marks_next c.args.outs.now n c.out-item.result c.loop-out-test.true c.out-item.is in
    record {
      within = subst (λ (n : ℕ). c.args.instance < n) (sym e.count) i.within;
      count = e.count ∙ i.count;
      pushes = pushes_then old mid new c.args.instance had one (marks_of (take (n + 1) c.args.outs.now)) i.pushes (subst (λ (l : List Mark). PushesMarks mid new c.args.instance l) c.mark_of.ensures e.pushes) next;
      some = tells_then c.loop-out.some c.in-Ok.now old mid new had one (marks_of (take (n + 1) c.args.outs.now)) i.some (subst (λ (l : List Mark). TellsSome c.loop-out.some c.in-Ok.now mid new l) c.mark_of.ensures e.some) next;
    }

pub returns-in-Err-clause-count : goal.returns-in-Err-clause-count
returns-in-Err-clause-count c = c.in-Err.ensures.count ∙ c.loop-out.invariant.count

pub returns-in-Err-clause-front : goal.returns-in-Err-clause-front
returns-in-Err-clause-front c =
    let i = c.loop-out.invariant in
    let n = c.loop-out.out-index in
    let mid = c.loop-out.merge in
    let new = c.push_some.new.merge in
    front_behind c.args.merge.now mid new c.args.instance (marks_of (take n c.args.outs.now)) (marks_of (c.out-item.result ∷ [])) (marks_of (drop (n + 1) c.args.outs.now)) (marks_of c.args.outs.now) i.pushes
    (subst (λ (l : List Mark). PushesFront mid new c.args.instance l) c.mark_of.ensures c.in-Err.ensures.front) (marks_split c.args.outs.now n c.out-item.result c.loop-out-test.true c.out-item.is)

pub returns-clause-pushes : goal.returns-clause-pushes
returns-clause-pushes c =
    let l = c.loop-out in
    subst (λ (xs : List Out). PushesMarks c.args.merge.now l.merge c.args.instance (marks_of xs)) (take_all l.out-index c.args.outs.now c.loop-out-test.false) l.invariant.pushes

pub returns-clause-some : goal.returns-clause-some
returns-clause-some c =
    let l = c.loop-out in
    subst (λ (xs : List Out). TellsSome false l.some c.args.merge.now l.merge (marks_of xs)) (take_all l.out-index c.args.outs.now c.loop-out-test.false) l.invariant.some
