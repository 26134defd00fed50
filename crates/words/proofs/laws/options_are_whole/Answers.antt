use Rattle.words.proofs.KeptRules.{named, usual_good}
use Rattle.words.proofs.laws.options_are_whole.Goals as goal

pub returns-clause-found : goal.returns-clause-found
returns-clause-found c = named

pub returns-clause-usual : goal.returns-clause-usual
returns-clause-usual c = usual_good
