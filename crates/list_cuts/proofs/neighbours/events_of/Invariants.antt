use Rattle.std.proofs.Common.{◌≡◌, take}
use Rattle.list_cuts.specs.Neighbours.{at_neighbours, last_of}
use Rattle.list_cuts.proofs.neighbours.events_of.Given as goal

abbrev pub invariant-loop-place : goal.invariant-loop-place
invariant-loop-place g l = (l.events.items ≡ at_neighbours (g.G.Gives.gives l.giver) (take l.place l.list)) × (l.before ≡ last_of (take l.place l.list))
