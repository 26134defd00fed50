use Rattle.std.proofs.Common.{ap, sym, subst}
use Rattle.stage_crew.specs.Crew.{Ends}
use Rattle.stage_crew.specs.Working.{WorksOff}
use Rattle.stage_crew.proofs.Working.{came_on, drives_same, works_around, works_beside}
use Rattle.stage_crew.proofs.frames.+frame.Goals as goal
use Rattle.stage_crew.proofs.frames.+frame.Goals.{in-Ok, in-Err+in-Some-pop}

pub returns-clause-drives : goal.returns-clause-drives
returns-clause-drives g t c = elim c.match-start.branch [
  | in-Ok w ↦ drives_same g.G.MarkTake w.frame-end.ensures.drives w.take-is (ap (λ p. p.1) w.back-is) w.ends-is
  | in-Err+in-Some-pop w ↦ drives_same g.G.MarkTake w.frame-end-in-Err.ensures.drives w.take-is (ap (λ p. p.1) w.back-is) w.ends-is
]

pub returns-clause-works : goal.returns-clause-works
returns-clause-works g t c =
    let s = g.S.Turns in
    let old = c.args.work.now in
    let left = c.pop.new.self in
    let one = c.in-Some.stage in
    let pops = c.in-Some.ensures in
    let puts = c.push_reserved-2.ensures in
    let on = c.turns_go_on.ensures.on one in
    let after = c.match-start.work in
    elim c.match-start.branch [
      | in-Ok w ↦
          let came = subst (λ x. s.goes_on x w.join.result) w.in-Ok.ensures.started w.join.ensures in
          let good : Ends s.goes_on s.over one c.run_out.result = record {
            goes = on c.match-start.back.0 c.run_out.result (subst (λ x. s.goes_on one x) (sym (ap (λ p. p.0) w.back-is)) came) c.run_out.ensures.goes;
            is_over = c.run_out.ensures.is_over;
          } in
          works_beside old left one pops.items pops.cases after c.push_reserved-2.new.self c.run_out.result puts.items puts.len puts.capacity good
          (subst (λ k. WorksOff g.D.Turns.goes_on s.goes_on s.over (record old { todo = left }) k) (sym w.work-is) w.frame-end.ensures.works)
      | in-Err+in-Some-pop w ↦
          let lends = w.push_reserved.ensures in
          let keeps = w.in-Some-pop.ensures in
          let inner = w.frame-end-in-Err in
          let back = came_on (record old { todo = left }) w.push_reserved.new.self _ _ lends.items lends.len inner.new.work inner.ensures.works w.pop-in-Err.new.self keeps.items keeps.cases in
          let came = on _ _ w.in-Err.ensures.refused back.1 in
          let good : Ends s.goes_on s.over one c.run_out.result = record {
            goes = on c.match-start.back.0 c.run_out.result (subst (λ x. s.goes_on one x) (sym (ap (λ p. p.0) w.back-is)) came) c.run_out.ensures.goes;
            is_over = c.run_out.ensures.is_over;
          } in
          works_beside old left one pops.items pops.cases after c.push_reserved-2.new.self c.run_out.result puts.items puts.len puts.capacity good
          (subst (λ k. WorksOff g.D.Turns.goes_on s.goes_on s.over (record old { todo = left }) k) (sym w.work-is)
          (works_around (record old { todo = left }) w.push_reserved.new.self _ _ lends.items lends.len inner.new.work inner.ensures.works w.pop-in-Err.new.self keeps.items keeps.cases))
    ]
