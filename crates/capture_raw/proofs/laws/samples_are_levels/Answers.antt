use Rattle.capture_raw.proofs.Levels.{levels}
use Rattle.capture_raw.proofs.laws.samples_are_levels.Goals as goal

pub returns : goal.returns
returns c = λ unit pins bytes small. levels unit pins bytes small
