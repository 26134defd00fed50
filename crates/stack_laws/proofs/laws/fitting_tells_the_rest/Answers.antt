use Rattle.stack_laws.proofs.Telling.{fitting_rest}
use Rattle.stack_laws.proofs.laws.fitting_tells_the_rest.Goals as goal

pub returns : goal.returns
returns c = fitting_rest
