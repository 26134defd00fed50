use Rattle.capture_raw.proofs.Captures.{fault_stays}
use Rattle.capture_raw.proofs.laws.fault_stays.Goals as goal

pub returns : goal.returns
returns c = λ channels rate pins front more told fault is. fault_stays channels rate pins front more told fault is
