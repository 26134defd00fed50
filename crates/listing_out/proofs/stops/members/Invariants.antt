use Rattle.listing_out.proofs.Members.{Listed}
use Rattle.listing_out.proofs.stops.members.Given as goal

abbrev pub invariant-loop-place : goal.invariant-loop-place
invariant-loop-place l = Listed l.initial.line l.line l.first l.set l.place
