use Rattle.std.proofs.Common.{◌≡◌, ◌∙◌, ap, subst, refl, set}
use Rattle.la_base.specs.declared.wires.Feed.{Feed}
use Rattle.stage_ring.specs.Link.{tx_link}
use Rattle.stack_threads.specs.Ties.{HeardPackets, KnowsPackets, Sent, got_on, sent_on}
use Rattle.stack_threads.proofs.Tying.{at_place, children_alike, children_links, known_all, put_same, same_sent}
use Rattle.stack_threads.proofs.settle.settle_child.Goals as goal

pub returns-in-Packets-clause-parent : goal.returns-in-Packets-clause-parent
returns-in-Packets-clause-parent g c =
    let p = c.args.parent.now in
    let k = c.args.place in
    let old = c.index_mut.result.now in
    let new = c.settle.new.tx in
    let e = c.settle.ensures.tx in
    let is = c.index_mut.ensures.value in
    record {
      machine = refl;
      links = children_links p (set p.children.items k new) (put_same tx_link p.children.items k old new (e.0 ∙ ap tx_link is));
      came = refl;
      given = children_alike p (set p.children.items k new) (put_same sent_on p.children.items k old new (same_sent old new e.2 e.1 ∙ ap sent_on is));
    }

pub returns-in-Packets-clause-tied : goal.returns-in-Packets-clause-tied
returns-in-Packets-clause-tied g c = λ s at_s.
    let p = c.args.parent.now in
    let old = c.index_mut.result.now in
    let e = c.settle.ensures in
    let same : sent_on old ≡ s = ap sent_on c.index_mut.ensures.value ∙ at_place sent_on p.children.items c.args.place old s c.requires.within at_s in
    subst (λ (x : Sent Feed). KnowsPackets (HeardPackets (got_on c.settle.new.rx)) x) same (known_all c.settle.new.rx old c.settle.new.tx e.tied e.between e.tx.2 e.tx.1)
