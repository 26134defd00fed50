use Rattle.stack_laws.proofs.Settled.{settled_ends}
use Rattle.stack_laws.proofs.laws.settled_ends_fit.Goals as goal

pub returns : goal.returns
returns c = settled_ends
