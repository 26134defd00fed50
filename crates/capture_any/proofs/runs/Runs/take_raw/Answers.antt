use Rattle.std.proofs.Common.{◌∙◌, ap, List, take, ◌++◌, arith}
use Rattle.la_base.specs.declared.samples.Run.{Run}
use Rattle.capture_any.proofs.Taking.{taken_behind}
use Rattle.capture_any.proofs.runs.Runs.take_raw.Goals as goal

pub returns-clause-gave : goal.returns-clause-gave
returns-clause-gave c =
    let held = c.held_runs.ensures in (
      take c.held_runs.result c.held_runs.new.into,
      taken_behind c.self.inside.room c.held_runs.new.into _ _ _ (omega arith) (held.within) ∙ ap (λ (l : List Run). l ++ take c.held_runs.result c.held_runs.new.into) c.self.view_is,
      held.given,
      held.progress,
    )
