use Rattle.std.proofs.Common.{◌∙◌, refl, map}
use Rattle.stage_ring.specs.Link.{sent}
use Rattle.stage_crew.proofs.Pumping.{pumps_none, pumps_then}
use Rattle.stage_crew.proofs.pump.Pump.go_on.Goals as goal

pub loop-init : goal.loop-init
loop-init g c = record {
  links_same = refl;
  pumps = λ place. pumps_none g.F.RunFeed c.args.feed.now c.args.self.now _ (map sent c.args.feeds.now.items) place refl;
}

pub loop-preserved : goal.loop-preserved
loop-preserved g c =
    let i = c.loop.invariant in
    let e = c.step.ensures in
    record {
      links_same = e.links ∙ i.links_same;
      pumps = pumps_then g.F.RunFeed i.pumps e.pumps;
    }

pub returns-then-not-step-clause-pumps : goal.returns-then-not-step-clause-pumps
returns-then-not-step-clause-pumps g c = pumps_then g.F.RunFeed c.loop.invariant.pumps c.step.ensures.pumps
