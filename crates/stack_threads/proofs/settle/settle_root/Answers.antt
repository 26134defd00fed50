use Rattle.std.proofs.Common.{◌≡◌, ◌∙◌, ap, sym, subst, get_or}
use Rattle.stage_ring.specs.Link.{tx_link}
use Rattle.stage_run.specs.Inputs.{input_link}
use Rattle.stage_run.specs.Stages.{parts_links}
use Rattle.stage_run.specs.declared.input.HalfRun.{HalfRun}
use Rattle.stack_threads.specs.Ties.{Heard, HeardSamples, KnowsSamples, Sent, got_on, heard_by, sent_on}
use Rattle.stack_threads.proofs.Tying.{alike_same, alike_set, at_place, but_put, get_map, get_put, known_all, no_packets, put_same, same_sent, samples_alike, some_same}
use Rattle.stack_threads.proofs.settle.settle_root.Goals as goal

pub settle-requires-after_bounds : goal.settle-requires-after_bounds
settle-requires-after_bounds g c κs =
    let ps = c.args.parts.now in
    let d = c.index-parts-instance.result in
    at_place tx_link c.args.feeds.now c.args.place c.index-feeds-place.result _ c.requires.within.1 (c.requires.link (parts_links (get_or ps c.args.instance d)) (get_map parts_links ps c.args.instance d c.requires.within.0)).0 ∙ ap input_link c.in-Samples.is

pub returns-in-Samples-clause-parts : goal.returns-in-Samples-clause-parts
returns-in-Samples-clause-parts g c =
    let ps = c.args.parts.now in
    let d = c.index-parts-instance.result in
    alike_set ps c.args.instance d _ (samples_alike (get_or ps c.args.instance d) c.in-Samples.from c.settle.new.rx c.in-Samples.is c.settle.ensures.rx.1 c.settle.ensures.rx.0)

pub returns-in-Samples-clause-feeds : goal.returns-in-Samples-clause-feeds
returns-in-Samples-clause-feeds g c =
    let fs = c.args.feeds.now in
    let d = c.index-feeds-place.result in
    let e = c.settle.ensures.tx in
    (put_same sent_on fs c.args.place d c.settle.new.tx (same_sent (get_or fs c.args.place d) c.settle.new.tx e.2 e.1), put_same tx_link fs c.args.place d c.settle.new.tx e.0)

pub returns-in-Samples-clause-others : goal.returns-in-Samples-clause-others
returns-in-Samples-clause-others g c = but_put heard_by c.args.parts.now c.args.instance _

pub returns-in-Samples-clause-tied : goal.returns-in-Samples-clause-tied
returns-in-Samples-clause-tied g c = λ h s at_h at_s.
    let e = c.settle.ensures in
    let tx = get_or c.args.feeds.now c.args.place c.index-feeds-place.result in
    let same : HeardSamples (got_on c.settle.new.rx) ≡ h = some_same (sym (get_put heard_by c.args.parts.now c.args.instance _ c.requires.within.0) ∙ at_h) in
    subst (λ (x : Heard). KnowsSamples x s) same
    (subst (λ (x : Sent HalfRun). KnowsSamples (HeardSamples (got_on c.settle.new.rx)) x) (at_place sent_on c.args.feeds.now c.args.place c.index-feeds-place.result s c.requires.within.1 at_s)
    (known_all c.settle.new.rx tx c.settle.new.tx e.tied e.between e.tx.2 e.tx.1))

pub returns-in-Packets-clause-parts : goal.returns-in-Packets-clause-parts
returns-in-Packets-clause-parts g c =
    let ps = c.args.parts.now in
    let d = c.index-parts-instance.result in
    alike_set ps c.args.instance d _ (alike_same (get_or ps c.args.instance d))

pub returns-in-Packets-clause-tied : goal.returns-in-Packets-clause-tied
returns-in-Packets-clause-tied g c = λ h s at_h at_s.
    let ps = c.args.parts.now in
    let d = c.index-parts-instance.result in
    no_packets (get_or ps c.args.instance d).input c.in-Packets.field-0 c.in-Packets.is (c.requires.link (parts_links (get_or ps c.args.instance d)) (get_map parts_links ps c.args.instance d c.requires.within.0)).1
