use Rattle.text_parts.proofs.ReadLemmas.{first_fault, fault_first}
use Rattle.text_parts.proofs.first_fault_is_answered.Goals as goal

pub returns-clause-first : goal.returns-clause-first
returns-clause-first g c = λ judge before parts fault e. first_fault judge before parts fault e

pub returns-clause-answered : goal.returns-clause-answered
returns-clause-answered g c = λ judge before parts fault f. fault_first judge before parts fault f
