use Rattle.std.proofs.Common.{◌≡◌, ◌<◌, ◌+◌, false}
use Rattle.stage_run.specs.Boxes.{IsFresh}
use Rattle.stage_run.specs.Stages.{Goes, SameEnds, Stepping, left_of}
use Rattle.stage_run.proofs.stage.Stage.work.Given as goal

abbrev pub invariant-loop : goal.invariant-loop
invariant-loop g l = record {
  goes : Goes g.M.Machine Stepping (l.counter + 1) l.fn.self l.self;
  same : SameEnds l.fn.self l.self;
  fresh : IsFresh l.self.outbox;
  less : left_of l.self < left_of l.fn.self;
  untold : l.self.floor_sent ≡ false;
}
