use Rattle.stack_laws.proofs.Kept.{moves_keep}
use Rattle.stack_laws.proofs.laws.moves_keep.Goals as goal

pub returns : goal.returns
returns c = moves_keep
