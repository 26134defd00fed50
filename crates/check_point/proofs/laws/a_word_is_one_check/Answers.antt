use Rattle.check_point.specs.laws.EntryLaws.{one_word}
use Rattle.check_point.proofs.laws.a_word_is_one_check.Goals as goal

pub returns : goal.returns
returns c = λ word kinds samples number one other a b. one_word word kinds samples number one other a b
