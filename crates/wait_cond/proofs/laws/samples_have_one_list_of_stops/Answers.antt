use Rattle.wait_cond.proofs.ChainLemmas.{one_list}
use Rattle.wait_cond.proofs.laws.samples_have_one_list_of_stops.Goals as goal

pub returns : goal.returns
returns c = one_list
