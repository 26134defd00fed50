use Rattle.byte_feed.proofs.Longer.{tokens_extend}
use Rattle.byte_feed.proofs.laws.tokens_extend.Goals as goal

pub returns : goal.returns
returns c = tokens_extend
