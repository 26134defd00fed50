use Rattle.std.proofs.Common.{◌≡◌, take}
use Rattle.list_cuts.specs.LastWhere.{last_that}
use Rattle.list_cuts.proofs.last.last_that.Given as goal

abbrev pub invariant-loop-item : goal.invariant-loop-item
invariant-loop-item g l = l.last ≡ last_that (g.P.Test.passes l.test) (take l.item-index l.list)
