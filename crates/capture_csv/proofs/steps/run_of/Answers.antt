use Rattle.std.proofs.Common.{refl}
use Rattle.la_base.specs.Samples.{samples}
use Rattle.capture_csv.proofs.steps.run_of.Goals as goal

pub returns : goal.returns
unfolding samples
returns c = record { gives = refl; len_is = refl }
