use Rattle.std.proofs.Common.{◌∙◌, ap, arith}
use Rattle.std.proofs.lemmas.List.{length-take}
use Rattle.std.specs.Prelude.{◌-◌, drop}
use Rattle.stage_run.specs.Rows.{waiting}
use Rattle.stage_run.proofs.Rows.{part_is}
use Rattle.stage_run.proofs.row.Row.waiting.Goals as goal

pub returns-clause-list : goal.returns-clause-list
returns-clause-list g c = part_is c.self.inside.at c.self.inside.count c.self.inside.room c.self.invariant.1 ∙ ap waiting c.self.view_is

pub returns-clause-few : goal.returns-clause-few
returns-clause-few g c =
    let s = c.self.inside in
    omega (arith, length-take (s.count - s.at) (drop s.at s.room), c.self.invariant.0)
