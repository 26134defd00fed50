use Rattle.std.proofs.Common.{◌≡◌, ◌++◌, map, drop}
use Rattle.list_cuts.specs.Parts.{parts}
use Rattle.list_cuts.proofs.parts.parts_of.Given as goal

abbrev pub invariant-loop-place : goal.invariant-loop-place
invariant-loop-place g l = map (λ part. part.items) l.lists.items ++ parts (g.M.Test.passes l.mark) (drop l.place l.list) ≡ parts (g.M.Test.passes l.mark) l.list
