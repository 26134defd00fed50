use Rattle.std.proofs.Common.{take}
use Rattle.annot_merge.specs.Limits.{IsNext}
use Rattle.annot_merge.proofs.limits.limit_but.Given as goal

abbrev pub invariant-loop-place : goal.invariant-loop-place
invariant-loop-place l = IsNext (take l.place l.bounds) l.but l.limit
