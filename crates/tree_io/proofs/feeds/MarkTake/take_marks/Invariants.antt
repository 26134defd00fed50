use Rattle.std.proofs.Common.{◌≡◌, ◌<◌, take, true}
use Rattle.tree_io.specs.Feeds.{TakesMarks, real}
use Rattle.tree_io.proofs.feeds.MarkTake.take_marks.Given as goal

abbrev pub invariant-loop-mark : goal.invariant-loop-mark
invariant-loop-mark g l =
    let t = g.Self.MarkTake in
    record {
      within : l.instance < t.instances l.self;
      takes : TakesMarks (t.took l.fn.self) (t.took l.self) l.instance (real (take l.mark-index l.marks));
      instances : t.instances l.self ≡ t.instances l.fn.self;
      kept : t.stops l.self ≡ t.stops l.fn.self;
      going : t.going l.fn.self true → t.going l.self true;
      origin : t.origin l.self ≡ t.origin l.fn.self;
    }
