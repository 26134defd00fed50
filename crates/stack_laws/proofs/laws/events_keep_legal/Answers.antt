use Rattle.stack_laws.proofs.Keeping.{events_keep}
use Rattle.stack_laws.proofs.laws.events_keep_legal.Goals as goal

pub returns : goal.returns
returns c = events_keep
