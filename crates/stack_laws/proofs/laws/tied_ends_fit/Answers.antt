use Rattle.stack_laws.proofs.Tying.{tied_ends}
use Rattle.stack_laws.proofs.laws.tied_ends_fit.Goals as goal

pub returns : goal.returns
returns c = tied_ends
