use Rattle.stack_laws.proofs.Worked.{worked}
use Rattle.stack_laws.proofs.laws.worked_run.Goals as goal

pub returns : goal.returns
returns c = worked
