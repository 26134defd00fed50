use Rattle.stage_crew.specs.Gathering.{GathersFrom}
use Rattle.stage_crew.proofs.gatherer.Gatherer.gather_each.Given as goal

abbrev pub invariant-loop-number : goal.invariant-loop-number
invariant-loop-number g l = GathersFrom g.G.MarkTake l.initial.take l.take l.initial.self l.self l.initial.marks l.marks
