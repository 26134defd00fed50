use Rattle.stack_laws.proofs.Owning.{keeps_own}
use Rattle.stack_laws.proofs.laws.stage_keeps_its_own.Goals as goal

pub returns : goal.returns
returns c = keeps_own
