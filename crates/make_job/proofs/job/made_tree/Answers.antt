use Rattle.make_job.proofs.MadeTree.{one_made_rate, the_tree}
use Rattle.make_job.proofs.job.made_tree.Goals as goal

pub returns-in-Ok : goal.returns-in-Ok
returns-in-Ok c = the_tree _ _ _ c.in_ok-names.ensures (one_made_rate _ _) c.in_ok-stack.ensures c.in-Ok.bound c.in-Ok.ensures.binds
