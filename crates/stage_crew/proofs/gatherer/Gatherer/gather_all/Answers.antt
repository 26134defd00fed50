use Rattle.stage_crew.proofs.Gathering.{from_then}
use Rattle.stage_crew.proofs.gatherer.Gatherer.gather_all.Goals as goal

pub returns : goal.returns
returns g c = from_then g.G.MarkTake c.gather_hindmost.ensures c.gather_each.ensures
