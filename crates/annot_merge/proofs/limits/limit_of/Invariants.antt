use Rattle.std.proofs.Common.{take}
use Rattle.annot_merge.specs.Limits.{IsLimit}
use Rattle.annot_merge.proofs.limits.limit_of.Given as goal

abbrev pub invariant-loop-place : goal.invariant-loop-place
invariant-loop-place l = IsLimit (take l.place l.bounds) l.limit
