use Rattle.std.proofs.Common.{◌≡◌, take}
use Rattle.list_cuts.specs.LastWhere.{last_where}
use Rattle.list_cuts.proofs.last.last_where.Given as goal

abbrev pub invariant-loop-place : goal.invariant-loop-place
invariant-loop-place g l = l.last ≡ last_where (g.P.Test.passes l.test) (take l.place l.list)
