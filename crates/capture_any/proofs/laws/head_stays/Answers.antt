use Rattle.capture_any.proofs.CaptureLaws.{head_stays}
use Rattle.capture_any.proofs.laws.head_stays.Goals as goal

pub returns : goal.returns
returns c = head_stays
