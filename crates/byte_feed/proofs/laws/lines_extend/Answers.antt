use Rattle.byte_feed.proofs.LinesLonger.{lines_extend}
use Rattle.byte_feed.proofs.laws.lines_extend.Goals as goal

pub returns : goal.returns
returns c = lines_extend
