use Rattle.std.proofs.Common.{◌+◌, arith}
use Rattle.stage_run.specs.Stages.{Stepping}
use Rattle.stage_run.proofs.Turning.{goes_none, goes_then, same_then}
use Rattle.stage_run.proofs.stage.Stage.work.Goals as goal

pub returns-then-not-step-clause-goes : goal.returns-then-not-step-clause-goes
returns-then-not-step-clause-goes g c = goes_then g.M.Machine Stepping 0 1 65 c.args.self.now c.args.self.now c.step.new.self (omega arith) (goes_none g.M.Machine Stepping c.args.self.now) c.step.ensures.goes

pub loop-init : goal.loop-init
loop-init g c =
    let e = c.step.ensures in
    record { goes = e.goes; same = e.same; fresh = e.fresh; less = e.less c.requires.empty; untold = e.untold c.if-not-step.false }

pub returns-then-not-step-2-clause-goes : goal.returns-then-not-step-2-clause-goes
returns-then-not-step-2-clause-goes g c = goes_then g.M.Machine Stepping (c.loop.counter + 1) 1 65 c.args.self.now c.loop.self c.step-in-loop.new.self (omega (arith, c.loop-test.true)) c.loop.invariant.goes c.step-in-loop.ensures.goes

pub loop-preserved : goal.loop-preserved
loop-preserved g c = record {
  goes = goes_then g.M.Machine Stepping (c.loop.counter + 1) 1 (c.loop.counter + 1 + 1) c.args.self.now c.loop.self c.step-in-loop.new.self (omega arith) c.loop.invariant.goes c.step-in-loop.ensures.goes;
  same = same_then c.args.self.now c.loop.self c.step-in-loop.new.self c.loop.invariant.same c.step-in-loop.ensures.same;
  fresh = c.step-in-loop.ensures.fresh;
  less = omega (arith, c.loop.invariant.less, c.step-in-loop.ensures.no_more);
  untold = c.step-in-loop.ensures.untold c.if-not-step-2.false;
}
