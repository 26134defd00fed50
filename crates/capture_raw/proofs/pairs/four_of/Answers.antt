use Rattle.capture_raw.proofs.Fours.{four_times}
use Rattle.capture_raw.proofs.pairs.four_of.Goals as goal

pub returns : goal.returns
returns c = four_times c.args.unit c.requires
