use Rattle.stack_laws.proofs.Listing.{front_whatever}
use Rattle.stack_laws.proofs.laws.prints_front_whatever_comes.Goals as goal

pub returns : goal.returns
returns c = λ parents by slots lawful state legal rest on. front_whatever parents by slots lawful state legal rest on
