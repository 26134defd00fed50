use Rattle.wait_cond.proofs.AllStops.{Gathered}
use Rattle.wait_cond.proofs.plain.all_stops.Given as goal

abbrev pub invariant-loop-at : goal.invariant-loop-at
invariant-loop-at l = Gathered l.samples l.alts l.stops.items l.from l.at
