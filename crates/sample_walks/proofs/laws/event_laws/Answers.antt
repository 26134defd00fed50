use Rattle.sample_walks.specs.laws.EventWalks.{events_given, events_walked}
use Rattle.sample_walks.proofs.laws.event_laws.Goals as goal

pub returns-clause-given : goal.returns-clause-given
returns-clause-given g c = λ w outs kept pushed list. events_given w outs kept pushed list

pub returns-clause-walked : goal.returns-clause-walked
returns-clause-walked g c = λ w outs kept pushed list. events_walked w outs kept pushed list
