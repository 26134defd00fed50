use Rattle.stack_laws.proofs.Listing.{ended_all}
use Rattle.stack_laws.proofs.laws.prints_all.Goals as goal

pub returns : goal.returns
returns c = λ parents by slots lawful state legal done input reads. ended_all parents by slots lawful state legal input reads done
