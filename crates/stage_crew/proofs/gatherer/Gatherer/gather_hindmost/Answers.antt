use Rattle.stage_crew.proofs.Gathering.{from_none, from_then}
use Rattle.stage_crew.proofs.gatherer.Gatherer.gather_hindmost.Goals as goal

pub loop-init : goal.loop-init
loop-init g c = from_none g.G.MarkTake c.args.take.now c.args.self.now c.args.marks.now

pub loop-preserved : goal.loop-preserved
loop-preserved g c = from_then g.G.MarkTake c.loop.invariant c.gather.ensures

pub returns-then-count-eq0 : goal.returns-then-count-eq0
returns-then-count-eq0 g c = from_none g.G.MarkTake c.args.take.now c.args.self.now c.args.marks.now

pub returns-then-not-gather : goal.returns-then-not-gather
returns-then-not-gather g c = from_then g.G.MarkTake c.loop.invariant c.gather.ensures
