use Rattle.stage_crew.proofs.Gathering.{from_none, from_then}
use Rattle.stage_crew.proofs.gatherer.Gatherer.gather_each.Goals as goal

pub loop-number-init : goal.loop-number-init
loop-number-init g c = from_none g.G.MarkTake c.args.take.now c.args.self.now c.args.marks.now

pub loop-number-preserved : goal.loop-number-preserved
loop-number-preserved g c = from_then g.G.MarkTake c.loop-number.invariant c.gather.ensures
