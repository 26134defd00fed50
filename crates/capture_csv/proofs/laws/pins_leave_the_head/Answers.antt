use Rattle.capture_csv.proofs.Longer.{pins_leave_the_head}
use Rattle.capture_csv.proofs.laws.pins_leave_the_head.Goals as goal

pub returns : goal.returns
returns c = pins_leave_the_head
