use Rattle.capture_csv.proofs.Longer.{longer_goes_on}
use Rattle.capture_csv.proofs.laws.longer_goes_on.Goals as goal

pub returns : goal.returns
returns c = longer_goes_on
