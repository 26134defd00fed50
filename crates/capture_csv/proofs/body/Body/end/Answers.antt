use Rattle.std.proofs.Common.{refl}
use Rattle.capture_csv.proofs.Taking.{one_sample, times_end}
use Rattle.capture_csv.proofs.body.Body.end.Goals as goal

pub returns-in-Times-clause-says : goal.returns-in-Times-clause-says
returns-in-Times-clause-says c = λ records given st held. times_end _ _ _ _ _ _ _ _ _ records given _ c.in-Times.is c.in-Some.is (one_sample _ _ refl refl) st
