use Rattle.capture_csv.proofs.Giving.{given_is_front}
use Rattle.capture_csv.proofs.laws.given_is_front.Goals as goal

pub returns : goal.returns
returns c = given_is_front
