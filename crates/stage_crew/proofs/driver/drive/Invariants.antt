use Rattle.std.proofs.Common.{◌≡◌, map, vec_len}
use Rattle.stage_ring.specs.Link.{received, rx_link, sent, tx_link}
use Rattle.stage_crew.specs.Crew.{AllGoOn}
use Rattle.stage_crew.specs.Keeping.{Kept}
use Rattle.stage_crew.proofs.driver.drive.Given as goal

abbrev pub invariant-loop : goal.invariant-loop
invariant-loop g l =
    (goal.iterator-loop g).can_next l.iterator' × (goal.iterator-loop g).is_finite l.iterator'
    × record {
      kept : Kept g.G.MarkTake l.fn.take l.take l.state (map received l.ends.marks.items) (sent l.ends.stop);
      marks_same : map rx_link l.ends.marks.items ≡ map rx_link l.fn.ends.marks.items;
      stop_same : tx_link l.ends.stop ≡ tx_link l.fn.ends.stop;
      len : vec_len l.ends.marks ≡ vec_len l.fn.ends.marks;
      readers_on : AllGoOn g.D.Turns.goes_on l.fn.readers l.readers;
      own_on : AllGoOn g.S.Turns.goes_on l.fn.own l.own;
    }
