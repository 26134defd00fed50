use Rattle.std.proofs.Common.{refl}
use Rattle.sample_walks.specs.laws.EdgeLaws.{edges}
use Rattle.sample_walks.specs.laws.EventDecoders.{floor_of, packets_of}
use Rattle.sample_walks.proofs.edges.EdgesLogicMachine.floor.Goals as goal

pub returns-clause-floor : goal.returns-clause-floor
returns-clause-floor c = λ seen more ends none next. floor_of edges tt seen more (ends, refl) none c.args.next c.args.next next refl

pub returns-clause-packets : goal.returns-clause-packets
returns-clause-packets c = λ seen more ends none next. packets_of edges tt seen more (ends, refl) none c.args.next c.args.next next refl
