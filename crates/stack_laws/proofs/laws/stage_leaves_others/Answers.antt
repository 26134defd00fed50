use Rattle.stack_laws.proofs.Leaving.{leaves_others}
use Rattle.stack_laws.proofs.laws.stage_leaves_others.Goals as goal

pub returns : goal.returns
returns c = leaves_others
