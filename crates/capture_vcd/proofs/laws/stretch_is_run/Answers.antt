use Rattle.capture_vcd.proofs.Stretches.{stretch_is_run}
use Rattle.capture_vcd.proofs.laws.stretch_is_run.Goals as goal

pub returns : goal.returns
returns c = stretch_is_run
