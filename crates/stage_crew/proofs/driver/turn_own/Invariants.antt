use Rattle.stage_crew.specs.Crew.{AllGoOn}
use Rattle.stage_crew.proofs.driver.turn_own.Given as goal

abbrev pub invariant-loop-place : goal.invariant-loop-place
invariant-loop-place g l = AllGoOn g.S.Turns.goes_on l.initial.own l.own
