use Rattle.annot_merge.proofs.GivingLemmas.{waits}
use Rattle.annot_merge.proofs.merge.Merge.ready_notes.Goals as goal

pub returns-clause-none : goal.returns-clause-none
returns-clause-none c = λ none. waits c.args.self.now (c.front.ensures.none none)
