use Rattle.stack_laws.proofs.Keeping.{event_keeps}
use Rattle.stack_laws.proofs.laws.event_keeps_legal.Goals as goal

pub returns : goal.returns
returns c = event_keeps
