use Rattle.wait_cond.proofs.ChainLemmas.{one_stop}
use Rattle.wait_cond.proofs.laws.a_wait_has_one_stop.Goals as goal

pub returns : goal.returns
returns c = one_stop
