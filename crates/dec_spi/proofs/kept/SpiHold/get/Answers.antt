use Rattle.dec_spi.specs.laws.MachineLaws.{same_spi}
use Rattle.dec_spi.proofs.kept.SpiHold.get.Goals as goal

pub returns-in-Some-clause-only : goal.returns-in-Some-clause-only
returns-in-Some-clause-only c = λ done other same put.
    same_spi other _ same (c.in-Some.ensures.1 other.held put)
