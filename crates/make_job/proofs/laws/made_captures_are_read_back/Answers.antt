use Rattle.make_job.proofs.MadeLaws.{read_back}
use Rattle.make_job.proofs.laws.made_captures_are_read_back.Goals as goal

pub returns : goal.returns
returns c = read_back
