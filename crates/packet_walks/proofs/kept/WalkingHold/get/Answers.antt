use Rattle.packet_walks.specs.laws.Walking.{same_walking}
use Rattle.packet_walks.proofs.kept.WalkingHold.get.Goals as goal

pub returns-in-Some-clause-only : goal.returns-in-Some-clause-only
returns-in-Some-clause-only g c = λ done other same put.
    same_walking other _ same (c.in-Some.ensures.1 other.held put)
