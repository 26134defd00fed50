use Rattle.tree_runs.specs.Runs.{TookEnds}
use Rattle.tree_runs.specs.Taking.{KeepsOn}
use Rattle.stack_direct.proofs.run.end_all.Given as goal

abbrev pub invariant-loop-instance : goal.invariant-loop-instance
invariant-loop-instance g l =
    let t = g.G.MarkTake in
    record {
      took : TookEnds (t.took l.fn.take) (t.took l.take) l.instance;
      takes : KeepsOn t.instances t.origin t.stops t.going l.fn.take l.take;
    }
