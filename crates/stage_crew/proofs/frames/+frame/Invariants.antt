use Rattle.std.proofs.Common.{vec_len}
use Rattle.stage_crew.proofs.frames.+frame.Given as goal

abbrev pub decreases-frame : goal.decreases-frame
decreases-frame g l = vec_len l.work.now.todo
