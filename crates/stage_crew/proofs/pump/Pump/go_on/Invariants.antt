use Rattle.std.proofs.Common.{◌≡◌, map}
use Rattle.stage_ring.specs.Link.{sent, tx_link}
use Rattle.stage_crew.specs.Pumping.{PumpsOn}
use Rattle.stage_crew.proofs.pump.Pump.go_on.Given as goal

abbrev pub invariant-loop : goal.invariant-loop
invariant-loop g l = record {
  links_same : map tx_link l.feeds.items ≡ map tx_link l.initial.feeds.items;
  pumps : PumpsOn g.F.RunFeed l.initial.feed l.feed l.initial.self l.self (map sent l.initial.feeds.items) (map sent l.feeds.items);
}
