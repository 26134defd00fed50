use Rattle.std.proofs.Common.{◌≡◌, ◌<◌, take, false}
use Rattle.tree_io.specs.Feeds.{marks_of}
use Rattle.annot_merge.specs.Held.{count_of}
use Rattle.note_lister.specs.Pushing.{PushesMarks, TellsSome}
use Rattle.note_lister.proofs.pushing.push_outs.Given as goal

abbrev pub invariant-loop-out : goal.invariant-loop-out
invariant-loop-out l = record {
  within : l.instance < count_of l.merge;
  count : count_of l.merge ≡ count_of l.fn.merge;
  pushes : PushesMarks l.fn.merge l.merge l.instance (marks_of (take l.out-index l.outs));
  some : TellsSome false l.some l.fn.merge l.merge (marks_of (take l.out-index l.outs));
}
