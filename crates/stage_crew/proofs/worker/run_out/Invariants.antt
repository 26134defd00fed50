use Rattle.stage_crew.proofs.worker.run_out.Given as goal

abbrev pub invariant-loop : goal.invariant-loop
invariant-loop g l =
    (goal.iterator-loop g).can_next l.iterator' × (goal.iterator-loop g).is_finite l.iterator'
    × g.S.Turns.goes_on l.fn.stage l.stage
