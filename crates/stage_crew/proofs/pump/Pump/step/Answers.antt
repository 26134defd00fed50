use Rattle.std.proofs.Common.{map, refl}
use Rattle.stage_ring.specs.Link.{sent}
use Rattle.stage_crew.proofs.Pumping.{pumps_hand, pumps_none}
use Rattle.stage_crew.proofs.pump.Pump.step.Goals as goal

pub returns-then-not-is_done-clause-pumps : goal.returns-then-not-is_done-clause-pumps
returns-then-not-is_done-clause-pumps g c place =
    let e = c.hand_on.ensures in
    pumps_hand g.F.RunFeed c.args.feed.now c.args.self.now c.hand_on.new.self (map sent c.args.feeds.now.items) (map sent c.hand_on.new.feeds.items) place e.same.0 e.same.1 e.same.2 e.same.3 e.fans

pub returns-then-self-clause-pumps : goal.returns-then-self-clause-pumps
returns-then-self-clause-pumps g c place = pumps_none g.F.RunFeed c.args.feed.now c.args.self.now _ (map sent c.args.feeds.now.items) place refl

pub returns-clause-pumps : goal.returns-clause-pumps
returns-clause-pumps g c = c.refill.ensures (map sent c.args.feeds.now.items)
