use Rattle.std.proofs.Common.{refl}
use Rattle.la_base.specs.Samples.{samples}
use Rattle.wait_cond.proofs.behind.behind.Goals as goal

pub returns-then-k-run-clause-samples : goal.returns-then-k-run-clause-samples
unfolding samples
returns-then-k-run-clause-samples c = refl
