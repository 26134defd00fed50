use Rattle.capture_csv.proofs.Longer.{pins_leave_the_ending}
use Rattle.capture_csv.proofs.laws.pins_leave_the_ending.Goals as goal

pub returns : goal.returns
returns c = pins_leave_the_ending
