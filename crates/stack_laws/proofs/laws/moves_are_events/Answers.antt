use Rattle.stack_laws.proofs.Moves.{moves_events}
use Rattle.stack_laws.proofs.laws.moves_are_events.Goals as goal

pub returns : goal.returns
returns c = moves_events
