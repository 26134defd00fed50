use Rattle.std.proofs.Common.{◌+◌, false, arith}
use Rattle.la_base.specs.declared.wires.Mark.TheVariants.{End as EndMark}
use Rattle.tree_runs.proofs.Running.{ends_next, ends_none}
use Rattle.stage_crew.proofs.Gathering.{taken_one}
use Rattle.stage_crew.proofs.Taking.{takes_none, takes_one, takes_then}
use Rattle.stage_crew.proofs.marks.end_all.Goals as goal

pub loop-instance-init : goal.loop-instance-init
loop-instance-init g c =
    let t = g.G.MarkTake in
    record { took = ends_none (t.took c.args.take.now); takes = takes_none t false c.args.take.now }

pub loop-instance-preserved : goal.loop-instance-preserved
loop-instance-preserved g c =
    let t = g.G.MarkTake in
    let i = c.loop-instance.invariant in
    let e = c.in-Ok.ensures in
    record {
      took = ends_next (t.took c.args.take.now) (t.took c.loop-instance.take) (t.took c.take.new.self) c.loop-instance.instance i.took (taken_one (t.took c.loop-instance.take) (t.took c.take.new.self) c.loop-instance.instance EndMark e.adds);
      takes = takes_then t i.takes (takes_one t _ (record { instances = e.instances; origin = e.origin; cause = e.cause; going = e.going }));
    }

pub returns-in-Err-clause-took : goal.returns-in-Err-clause-took
returns-in-Err-clause-took g c =
    let t = g.G.MarkTake in
    let i = c.loop-instance.invariant in
    (c.loop-instance.instance + 1, omega arith, tt, ends_next (t.took c.args.take.now) (t.took c.loop-instance.take) (t.took c.take.new.self) c.loop-instance.instance i.took (taken_one (t.took c.loop-instance.take) (t.took c.take.new.self) c.loop-instance.instance EndMark c.in-Err.ensures.adds))

pub returns-in-Err-clause-takes : goal.returns-in-Err-clause-takes
returns-in-Err-clause-takes g c =
    let t = g.G.MarkTake in
    let e = c.in-Err.ensures in
    takes_then t c.loop-instance.invariant.takes (takes_one t _ (record { instances = e.instances; origin = e.origin; cause = e.cause; going = e.going }))
