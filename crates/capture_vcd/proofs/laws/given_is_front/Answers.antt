use Rattle.capture_vcd.proofs.Given.{given_is_front}
use Rattle.capture_vcd.proofs.laws.given_is_front.Goals as goal

pub returns : goal.returns
returns c = given_is_front
