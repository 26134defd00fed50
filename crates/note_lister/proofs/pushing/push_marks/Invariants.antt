use Rattle.std.proofs.Common.{◌≡◌, ◌<◌, take, false}
use Rattle.tree_io.specs.Feeds.{real}
use Rattle.annot_merge.specs.Held.{count_of}
use Rattle.note_lister.specs.Pushing.{PushesMarks, TellsSome}
use Rattle.note_lister.proofs.pushing.push_marks.Given as goal

abbrev pub invariant-loop-mark : goal.invariant-loop-mark
invariant-loop-mark l = record {
  within : l.instance < count_of l.merge;
  count : count_of l.merge ≡ count_of l.fn.merge;
  pushes : PushesMarks l.fn.merge l.merge l.instance (real (take l.mark-index l.marks));
  some : TellsSome false l.some l.fn.merge l.merge (real (take l.mark-index l.marks));
}
