use Rattle.stack_laws.proofs.Tying.{sends_end_last}
use Rattle.stack_laws.proofs.laws.end_is_sent_last.Goals as goal

pub returns : goal.returns
returns c = sends_end_last
