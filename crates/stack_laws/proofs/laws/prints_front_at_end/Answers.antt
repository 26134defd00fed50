use Rattle.stack_laws.proofs.Listing.{ended_front}
use Rattle.stack_laws.proofs.laws.prints_front_at_end.Goals as goal

pub returns : goal.returns
returns c = λ parents by slots lawful state legal ended input reads. ended_front parents by slots lawful state legal input reads
