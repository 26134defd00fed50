use Rattle.std.proofs.Common.{◌<◌}
use Rattle.stage_crew.proofs.gatherer.Gatherer.hindmost.Given as goal

abbrev pub invariant-loop-place : goal.invariant-loop-place
invariant-loop-place l = l.found < l.count
