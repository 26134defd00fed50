use Rattle.std.proofs.Common.{arith, refl, take, map}
use Rattle.std.proofs.lemmas.List.{map-set}
use Rattle.stage_ring.specs.Link.{rx_link, received}
use Rattle.stage_crew.proofs.Gathering.{from_none, gathered_one}
use Rattle.stage_crew.proofs.Handing.{links_same, get_at}
use Rattle.stage_crew.proofs.gatherer.Gatherer.gather.Goals as goal

pub returns-then-self-number : goal.returns-then-self-number
returns-then-self-number g c = from_none g.G.MarkTake c.args.take.now c.args.self.now c.args.marks.now

pub returns : goal.returns
returns g c =
    let t = g.G.MarkTake in
    let s = c.args.self.now in
    let olds = c.args.marks.now.items in
    let e = c.take_marks-stopped.ensures in
    record {
      gathers = gathered_one t s _ c.take_marks-stopped.result c.ends-over.result (map received olds) _ c.args.number (received c.index_mut.result.now) (received c.take_some-count.new.self) (take c.take_some-count.result c.take_some-count.new.into) e.took.0 refl refl
          (get_at received olds c.args.number c.index_mut.result.now (omega (arith, c.requires.within, c.args.marks.now.ok.0)) c.index_mut.ensures.value) (map-set received olds c.args.number c.take_some-count.new.self) c.take_some-count.ensures.received e.took.1 e.took.2 e.took.3 c.ends-over.ensures e.takes;
      links = links_same rx_link olds c.args.number c.index_mut.result.now c.take_some-count.new.self c.index_mut.ensures.value c.take_some-count.ensures.link;
      count = refl;
    }
