use Rattle.stack_laws.proofs.Acts.{acts_keep}
use Rattle.stack_laws.proofs.laws.acts_keep_legal.Goals as goal

pub returns : goal.returns
returns c = acts_keep
