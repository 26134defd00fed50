use Rattle.stack_laws.proofs.Telling.{fitting_tells}
use Rattle.stack_laws.proofs.laws.fitting_tells.Goals as goal

pub returns : goal.returns
returns c = fitting_tells
