use Rattle.capture_vcd.proofs.Longer.{pins_leave_the_head}
use Rattle.capture_vcd.proofs.laws.pins_leave_the_head.Goals as goal

pub returns : goal.returns
returns c = pins_leave_the_head
