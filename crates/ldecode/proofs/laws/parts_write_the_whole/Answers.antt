use Rattle.ldecode.proofs.Together.{write_the_whole}
use Rattle.ldecode.proofs.laws.parts_write_the_whole.Goals as goal

pub returns : goal.returns
returns c = λ accepted nodes first others forest none are. write_the_whole _ accepted nodes none forest first others are
