use Rattle.byte_feed.proofs.LinesCut.{lines_place}
use Rattle.byte_feed.proofs.laws.lines_can_be_cut.Goals as goal

pub returns : goal.returns
returns c = lines_place
