use Rattle.capture_any.proofs.CaptureLaws.{longer_extends}
use Rattle.capture_any.proofs.laws.longer_extends.Goals as goal

pub returns : goal.returns
returns c = longer_extends
