use Rattle.capture_any.proofs.CaptureLaws.{pins_leave_the_ending}
use Rattle.capture_any.proofs.laws.pins_leave_the_ending.Goals as goal

pub returns : goal.returns
returns c = pins_leave_the_ending
