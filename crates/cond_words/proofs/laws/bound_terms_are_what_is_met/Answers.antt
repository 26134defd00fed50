use Rattle.cond_words.proofs.HoldLemmas.{met_where_terms_hold}
use Rattle.cond_words.proofs.laws.bound_terms_are_what_is_met.Goals as goal

pub returns : goal.returns
returns c = met_where_terms_hold
