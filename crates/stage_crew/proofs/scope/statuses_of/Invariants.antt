use Rattle.std.proofs.Common.{◌≡◌, vec_len}
use Rattle.stage_crew.proofs.scope.statuses_of.Given as goal

abbrev pub invariant-loop-place : goal.invariant-loop-place
invariant-loop-place l = vec_len l.workers ≡ l.place
