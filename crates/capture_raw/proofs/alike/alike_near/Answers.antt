use Rattle.capture_raw.proofs.Agreeing.{all_first}
use Rattle.capture_raw.proofs.alike.alike_near.Goals as goal

pub agreeing_words-count-requires-clause-agree : goal.agreeing_words-count-requires-clause-agree
agreeing_words-count-requires-clause-agree c = all_first c.args.mask c.args.bytes.now
