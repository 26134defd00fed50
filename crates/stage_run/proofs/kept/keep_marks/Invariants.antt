use Rattle.std.proofs.Common.{◌≡◌, ◌++◌, take}
use Rattle.tree_io.specs.Feeds.{marks_of}
use Rattle.stage_run.proofs.kept.keep_marks.Given as goal

abbrev pub invariant-loop-out : goal.invariant-loop-out
invariant-loop-out l = (l.marks.list ≡ l.fn.marks.list ++ marks_of (take l.out-index l.outs)) × (l.marks.at ≡ l.fn.marks.at)
