use Rattle.capture_csv.proofs.Plain.{simple_is_read}
use Rattle.capture_csv.proofs.laws.simple_is_read.Goals as goal

pub returns : goal.returns
returns c = simple_is_read
