use Rattle.kind_table.proofs.WholeRows.{kind_whole}
use Rattle.kind_table.proofs.laws.kinds_are_whole.Goals as goal

pub returns-clause-whole : goal.returns-clause-whole
returns-clause-whole c = kind_whole
