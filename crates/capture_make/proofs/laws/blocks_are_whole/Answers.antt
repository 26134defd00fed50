use Rattle.capture_make.proofs.Blocks.{made_length}
use Rattle.capture_make.proofs.laws.blocks_are_whole.Goals as goal

pub returns : goal.returns
returns c = made_length
