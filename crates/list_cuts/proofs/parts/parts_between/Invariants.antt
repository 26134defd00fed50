use Rattle.std.proofs.Common.{◌≡◌, ◌++◌, map, drop}
use Rattle.list_cuts.specs.Kept.{kept}
use Rattle.list_cuts.specs.Parts.{parts_between}
use Rattle.list_cuts.proofs.parts.parts_between.Given as goal

abbrev pub invariant-loop-place : goal.invariant-loop-place
invariant-loop-place g l = map kept l.lists.items ++ parts_between (g.B.Test.passes l.begins) (g.E.Test.passes l.ends) (drop l.place l.list) ≡ parts_between (g.B.Test.passes l.begins) (g.E.Test.passes l.ends) l.list
