use Rattle.capture_any.proofs.CaptureLaws.{faults_stay}
use Rattle.capture_any.proofs.laws.fault_stays.Goals as goal

pub returns : goal.returns
returns c = faults_stay
