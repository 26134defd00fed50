use Rattle.dec_onewire.specs.laws.LinkMachineLaws.{same_link}
use Rattle.dec_onewire.proofs.link.kept.OwLinkHold.get.Goals as goal

pub returns-in-Some-clause-only : goal.returns-in-Some-clause-only
returns-in-Some-clause-only c = λ done other same put.
    same_link other _ same (c.in-Some.ensures.1 other.held put)
