use Rattle.wait_cond.proofs.ChainLemmas.{stops_go_on, chain_longer, none_in_longer}
use Rattle.wait_cond.proofs.laws.stops_go_on_with_samples.Goals as goal

pub returns-clause-go_on : goal.returns-clause-go_on
returns-clause-go_on c = stops_go_on

pub returns-clause-stays : goal.returns-clause-stays
returns-clause-stays c = λ samples more alts from to stops chain. chain_longer samples more alts from to stops chain

pub returns-clause-none : goal.returns-clause-none
returns-clause-none c = λ samples more alts from end within none. none_in_longer samples more alts from end within none
