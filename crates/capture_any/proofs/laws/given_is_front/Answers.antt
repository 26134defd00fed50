use Rattle.capture_any.proofs.CaptureLaws.{given_is_front}
use Rattle.capture_any.proofs.laws.given_is_front.Goals as goal

pub returns : goal.returns
returns c = given_is_front
