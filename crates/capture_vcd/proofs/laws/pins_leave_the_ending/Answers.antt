use Rattle.capture_vcd.proofs.Longer.{pins_leave_the_ending}
use Rattle.capture_vcd.proofs.laws.pins_leave_the_ending.Goals as goal

pub returns : goal.returns
returns c = pins_leave_the_ending
