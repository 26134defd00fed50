use Rattle.std.proofs.Common.{false}
use Rattle.tree_runs.specs.Runs.{TookEnds}
use Rattle.stage_crew.specs.Gathering.{TakesUntil}
use Rattle.stage_crew.proofs.marks.end_all.Given as goal

abbrev pub invariant-loop-instance : goal.invariant-loop-instance
invariant-loop-instance g l =
    let t = g.G.MarkTake in
    record {
      took : TookEnds (t.took l.fn.take) (t.took l.take) l.instance;
      takes : TakesUntil t false false l.fn.take l.take;
    }
