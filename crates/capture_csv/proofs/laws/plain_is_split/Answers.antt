use Rattle.capture_csv.proofs.Plain.{plain_is_split}
use Rattle.capture_csv.proofs.laws.plain_is_split.Goals as goal

pub returns : goal.returns
returns c = plain_is_split
