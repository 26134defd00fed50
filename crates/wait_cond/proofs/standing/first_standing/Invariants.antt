use Rattle.std.proofs.Common.{take}
use Rattle.wait_cond.specs.Standing.{FirstStanding}
use Rattle.wait_cond.proofs.standing.first_standing.Given as goal

abbrev pub invariant-loop-alt : goal.invariant-loop-alt
invariant-loop-alt l = FirstStanding (take l.alt-index l.alts) l.value l.from l.begin l.end l.first
