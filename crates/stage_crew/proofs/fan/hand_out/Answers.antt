use Rattle.std.proofs.Common.{◌+◌, sym, arith, List, subst}
use Rattle.std.proofs.lemmas.List.{map-set}
use Rattle.stage_ring.specs.Link.{tx_link, sent}
use Rattle.stage_crew.specs.Fans.{Fans}
use Rattle.stage_crew.proofs.Handing.{links_same, fan_more, fan_next, get_at}
use Rattle.stage_crew.proofs.fan.hand_out.Goals as goal

pub returns-then-given-row-clause-links : goal.returns-then-given-row-clause-links
returns-then-given-row-clause-links g c = links_same tx_link c.args.ends.now.items c.args.so_far.child c.index_mut.result.now c.offer_some.new.self c.index_mut.ensures.value c.offer_some.ensures.link.0

pub returns-else-given-row-clause-links : goal.returns-else-given-row-clause-links
returns-else-given-row-clause-links g c = links_same tx_link c.args.ends.now.items c.args.so_far.child c.index_mut.result.now c.offer_some.new.self c.index_mut.ensures.value c.offer_some.ensures.link.0

pub returns-then-given-row-clause-fans : goal.returns-then-given-row-clause-fans
returns-then-given-row-clause-fans g c = λ all f.
    let ends = c.args.ends.now.items in
    let k = c.args.so_far.child in
    subst (λ (l : List (List _)). Fans l c.args.row.now (record { child = k + 1; given = 0 }) all) (sym (map-set sent ends k c.offer_some.new.self))
    (fan_next (sent c.index_mut.result.now) (sent c.offer_some.new.self) c.offer_some.result (get_at sent ends k c.index_mut.result.now (omega (arith, c.if-child-len.false, c.len.ensures, c.args.ends.now.ok.0)) c.index_mut.ensures.value) c.offer_some.ensures.sent f c.if-given-row.true)

pub returns-else-given-row-clause-fans : goal.returns-else-given-row-clause-fans
returns-else-given-row-clause-fans g c = λ all f.
    let ends = c.args.ends.now.items in
    let k = c.args.so_far.child in
    subst (λ (l : List (List _)). Fans l c.args.row.now (record { child = k; given = c.args.so_far.given + c.offer_some.result }) all) (sym (map-set sent ends k c.offer_some.new.self))
    (fan_more (sent c.index_mut.result.now) (sent c.offer_some.new.self) c.offer_some.result (get_at sent ends k c.index_mut.result.now (omega (arith, c.if-child-len.false, c.len.ensures, c.args.ends.now.ok.0)) c.index_mut.ensures.value) c.offer_some.ensures.sent f)
