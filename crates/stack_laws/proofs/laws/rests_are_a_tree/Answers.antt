use Rattle.stack_laws.proofs.Rests.{rests_tree}
use Rattle.stack_laws.proofs.laws.rests_are_a_tree.Goals as goal

pub returns : goal.returns
returns c = rests_tree
