use Rattle.stage_crew.specs.Gathering.{GathersFrom}
use Rattle.stage_crew.proofs.gatherer.Gatherer.gather_hindmost.Given as goal

abbrev pub invariant-loop : goal.invariant-loop
invariant-loop g l = GathersFrom g.G.MarkTake l.initial.take l.take l.initial.self l.self l.initial.marks l.marks
