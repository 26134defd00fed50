use Rattle.std.proofs.Common.{ap, subst, sym}
use Rattle.stage_crew.specs.Crew.{Ends, Each}
use Rattle.stage_crew.proofs.Working.{all_done, drives_same}
use Rattle.stage_crew.proofs.frames.lead.Goals as goal
use Rattle.stage_crew.proofs.frames.lead.Goals.{in-Ok, in-Err+in-Some}

pub returns-clause-drives : goal.returns-clause-drives
returns-clause-drives g c = elim c.match-start.branch [
  | in-Ok w ↦ drives_same g.G.MarkTake w.frame-end.ensures.drives w.take-is (ap (λ p. p.1) w.back-is) w.ends-is
  | in-Err+in-Some w ↦ drives_same g.G.MarkTake w.frame-end-in-Err.ensures.drives w.take-is (ap (λ p. p.1) w.back-is) w.ends-is
]

pub returns-clause-done : goal.returns-clause-done
returns-clause-done g c =
    let s = g.S.Turns in
    elim c.match-start.branch [
      | in-Ok w ↦ subst (λ k. Each (Ends s.goes_on s.over) c.args.work.now.todo.items k.done.items) (sym w.work-is) (all_done _ _ c.requires.ready.none w.frame-end.ensures.works)
      | in-Err+in-Some w ↦ subst (λ k. Each (Ends s.goes_on s.over) c.args.work.now.todo.items k.done.items) (sym w.work-is) (all_done _ _ c.requires.ready.none w.frame-end-in-Err.ensures.works)
    ]
