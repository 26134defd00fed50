use Rattle.stage_run.proofs.Turning.{keeps_on}
use Rattle.stage_run.proofs.stage.Stage.turn.Goals as goal

pub returns-then-is_over-clause-keeps : goal.returns-then-is_over-clause-keeps
returns-then-is_over-clause-keeps g c = keeps_on g.M.Machine c.moves_keep.ensures g.met.M.Machine.prefix c.args.budget c.args.self.now c.move_on-made.new.self c.move_on-made.ensures.acts

pub returns-then-not-made-2-clause-keeps : goal.returns-then-not-made-2-clause-keeps
returns-then-not-made-2-clause-keeps g c = keeps_on g.M.Machine c.moves_keep.ensures g.met.M.Machine.prefix c.args.budget c.args.self.now c.move_on-made.new.self c.move_on-made.ensures.acts

pub returns-clause-keeps : goal.returns-clause-keeps
returns-clause-keeps g c = keeps_on g.M.Machine c.moves_keep.ensures g.met.M.Machine.prefix c.args.budget c.args.self.now c.move_on-made.new.self c.move_on-made.ensures.acts
