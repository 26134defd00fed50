use Rattle.std.proofs.Common.{refl}
use Rattle.capture_make.specs.Made.{number_at}
use Rattle.capture_make.proofs.laws.worked_draws_hold.Goals as goal

pub returns : goal.returns
unfolding number_at
returns c = record { first = refl; second = refl; third = refl; fourth = refl }
