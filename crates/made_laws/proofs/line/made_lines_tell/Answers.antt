use Rattle.made_laws.specs.laws.MadeLines.{made_tell}
use Rattle.made_laws.proofs.line.made_lines_tell.Goals as goal

pub returns : goal.returns
returns c = λ rate million whole seed count. made_tell rate million whole seed count
