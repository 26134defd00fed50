use Rattle.capture_raw.proofs.Captures.{settled_longer}
use Rattle.capture_raw.proofs.laws.longer_extends.Goals as goal

pub returns : goal.returns
returns c = λ channels rate pins front more told some. settled_longer channels rate pins front more told some
