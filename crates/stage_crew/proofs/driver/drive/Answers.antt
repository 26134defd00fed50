use Rattle.std.proofs.Common.{◌≡◌, ◌∙◌, sym, refl, map, length, arith}
use Rattle.std.proofs.lemmas.List.{length-map}
use Rattle.stage_ring.specs.Link.{received, sent}
use Rattle.stage_crew.proofs.Each.{all_further, all_still}
use Rattle.stage_crew.proofs.Driving.{collects, kept_next, kept_none}
use Rattle.stage_crew.proofs.Gathering.{gathers_then}
use Rattle.stage_crew.proofs.driver.drive.Goals as goal

pub loop-init : goal.loop-init
loop-init g c =
    let s = c.new-state.ensures in (
      tt,
      tt,
      record {
        kept = kept_none g.G.MarkTake c.args.take.now c.new-state.result (map received c.args.ends.now.marks.items) (sent c.args.ends.now.stop) s.over s.going c.requires.unused.fresh c.requires.unused.untold;
        marks_same = refl;
        stop_same = refl;
        len = refl;
        readers_on = all_still g.D.Turns.goes_on c.turns_go_on.ensures.still c.args.readers.now;
        own_on = all_still g.S.Turns.goes_on c.turns_go_on-2.ensures.still c.args.own.now;
      },
    )

pub loop-preserved : goal.loop-preserved
loop-preserved g c =
    let i = c.loop.invariant.2 in
    let q = c.gather_all-gathered.ensures in
    let t = c.tell_stop.ensures in (
      tt,
      tt,
      record {
        kept = kept_next g.G.MarkTake i.kept (gathers_then g.G.MarkTake q.gathers (c.let_read.ensures (map received c.gather_all-gathered.new.marks.items))) t.untold;
        marks_same = q.links ∙ i.marks_same;
        stop_same = t.link ∙ i.stop_same;
        len = q.count ∙ i.len;
        readers_on = all_further g.D.Turns.goes_on c.turns_go_on.ensures.on i.readers_on c.turn_own-read.ensures;
        own_on = all_further g.S.Turns.goes_on c.turns_go_on-2.ensures.on i.own_on c.turn_own-turned.ensures;
      },
    )

pub finish-requires : goal.finish-requires
finish-requires g c =
    let i = c.loop.invariant.2 in
    let q = c.gather_all-gathered.ensures in
    let kept = kept_next g.G.MarkTake i.kept (gathers_then g.G.MarkTake q.gathers (c.let_read.ensures (map received c.gather_all-gathered.new.marks.items))) c.tell_stop.ensures.untold in
    let same = kept.takes.instances in
    let count = c.len-then-all_over.ensures in
    omega (arith, same, count, q.count, i.len, c.requires.unused.of.0)

pub returns-then-all_over-clause-readers : goal.returns-then-all_over-clause-readers
returns-then-all_over-clause-readers g c = all_further g.D.Turns.goes_on c.turns_go_on.ensures.on c.loop.invariant.2.readers_on c.turn_own-read.ensures

pub returns-then-all_over-clause-own : goal.returns-then-all_over-clause-own
returns-then-all_over-clause-own g c = all_further g.S.Turns.goes_on c.turns_go_on-2.ensures.on c.loop.invariant.2.own_on c.turn_own-turned.ensures

pub returns-then-all_over-clause-drives : goal.returns-then-all_over-clause-drives
returns-then-all_over-clause-drives g c =
    let i = c.loop.invariant.2 in
    let q = c.gather_all-gathered.ensures in
    let e = c.finish.ensures.took in
    let marks = c.gather_all-gathered.new.marks in
    let n : length (map received marks.items) ≡ c.len.result = length-map marks.items received ∙ sym marks.ok.0 ∙ sym c.len.ensures in
    let m : length (map received marks.items) ≡ c.len-then-all_over.result = length-map marks.items received ∙ sym marks.ok.0 ∙ sym c.len-then-all_over.ensures in
    record {
      collects = collects g.G.MarkTake c.finish.new.take c.finish.result e.0 (kept_next g.G.MarkTake i.kept (gathers_then g.G.MarkTake q.gathers (c.let_read.ensures (map received marks.items))) c.tell_stop.ensures.untold)
          (λ j less. c.if-all_over.ensures refl j (omega (arith, n, less))) e.4 e.3 (λ is. let k = e.2 is in (omega (arith, k.0, m), k.1)) c.finish.ensures.takes;
      marks = q.links ∙ i.marks_same;
      stop = c.tell_stop.ensures.link ∙ i.stop_same;
    }
