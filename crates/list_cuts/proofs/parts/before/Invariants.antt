use Rattle.std.proofs.Common.{◌≡◌, ◌++◌, take, drop}
use Rattle.list_cuts.specs.Parts.{before_mark}
use Rattle.list_cuts.proofs.parts.before.Given as goal

abbrev pub invariant-loop-place : goal.invariant-loop-place
invariant-loop-place g l = take l.place l.list ++ before_mark (g.M.Test.passes l.mark) (drop l.place l.list) ≡ before_mark (g.M.Test.passes l.mark) l.list
