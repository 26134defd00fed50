use Rattle.std.proofs.Common.{◌+◌, arith}
use Rattle.tree_runs.proofs.Running.{ends_next, ends_none}
use Rattle.stack_direct.proofs.Going.{goes_then, goes_nowhere}
use Rattle.stack_direct.proofs.run.end_all.Goals as goal

pub loop-instance-init : goal.loop-instance-init
loop-instance-init g c =
    let t = g.G.MarkTake in
    record { took = ends_none (t.took c.args.take.now); takes = goes_nowhere t.instances t.origin t.stops t.going c.args.take.now }

pub loop-instance-preserved : goal.loop-instance-preserved
loop-instance-preserved g c =
    let t = g.G.MarkTake in
    let i = c.loop-instance.invariant in
    let e = c.in-Ok.ensures in
    record {
      took = ends_next (t.took c.args.take.now) (t.took c.loop-instance.take) (t.took c.mark.new.take) c.loop-instance.instance i.took e.took;
      takes = goes_then t.instances t.origin t.stops t.going i.takes e.takes;
    }

pub returns-in-Err-clause-took : goal.returns-in-Err-clause-took
returns-in-Err-clause-took g c =
    let t = g.G.MarkTake in
    let i = c.loop-instance.invariant in
    (c.loop-instance.instance + 1, omega arith, tt, omega arith, ends_next (t.took c.args.take.now) (t.took c.loop-instance.take) (t.took c.mark.new.take) c.loop-instance.instance i.took c.in-Err.ensures.took)

pub returns-in-Err-clause-takes : goal.returns-in-Err-clause-takes
returns-in-Err-clause-takes g c = let t = g.G.MarkTake in goes_then t.instances t.origin t.stops t.going c.loop-instance.invariant.takes c.in-Err.ensures.takes
