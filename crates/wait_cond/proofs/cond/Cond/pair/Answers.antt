use Rattle.wait_cond.proofs.Exact.{exact_stands}
use Rattle.wait_cond.proofs.cond.Cond.pair.Goals as goal

pub returns-clause-stands : goal.returns-clause-stands
returns-clause-stands c = λ value. exact_stands c.args.self.now c.requires value
