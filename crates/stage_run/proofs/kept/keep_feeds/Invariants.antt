use Rattle.std.proofs.Common.{◌≡◌, ◌++◌, take}
use Rattle.stack_laws.specs.Feeds.{feeds_of}
use Rattle.stage_run.proofs.kept.keep_feeds.Given as goal

abbrev pub invariant-loop-out : goal.invariant-loop-out
invariant-loop-out l = (l.feeds.list ≡ l.fn.feeds.list ++ feeds_of (take l.out-index l.outs)) × (l.feeds.at ≡ l.fn.feeds.at)
