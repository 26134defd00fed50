use Rattle.std.proofs.Common.{◌≡◌, ◌<◌, true, false}
use Rattle.stage_run.specs.Acts.{Passing, Working}
use Rattle.stage_run.specs.Stages.{ActsOn, left_of, missed, passed}
use Rattle.stage_run.proofs.stage.Stage.move_on.Given as goal

abbrev pub invariant-loop : goal.invariant-loop
invariant-loop g l = record {
  acts : ActsOn g.M.Machine l.counter l.fn.self l.self;
  passing : Passing l.passed (passed l.fn.self) (passed l.self);
  missing : missed l.self ≡ missed l.fn.self;
  working : l.passed ≡ false → Working l.worked (left_of l.fn.self) (left_of l.self);
  some : 0 < l.counter → l.passed ≡ false → l.worked ≡ true;
}
