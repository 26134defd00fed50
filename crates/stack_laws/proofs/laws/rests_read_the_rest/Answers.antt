use Rattle.stack_laws.proofs.Rests.{rests_read}
use Rattle.stack_laws.proofs.laws.rests_read_the_rest.Goals as goal

pub returns : goal.returns
returns c = rests_read
