use Rattle.wait_cond.proofs.Masks.{one_more}
use Rattle.cond_words.proofs.bind.with_line.Goals as goal

pub returns : goal.returns
returns c = search (one_more, c.requires)
