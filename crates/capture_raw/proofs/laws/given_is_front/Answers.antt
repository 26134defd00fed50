use Rattle.capture_raw.proofs.Captures.{unit_some}
use Rattle.capture_raw.proofs.Standing.{given_front}
use Rattle.capture_raw.proofs.laws.given_is_front.Goals as goal

pub returns : goal.returns
returns c = λ reader bytes given told st few. given_front reader.channels (unit_some reader.channels reader.channels_fit.0) reader.rate reader.pins.items reader.held bytes given told st few
