use Rattle.std.proofs.Common.{◌≡◌, ◌<◌, take, true}
use Rattle.tree_io.specs.Feeds.{TakesMarks, marks_of}
use Rattle.tree_io.proofs.feeds.MarkTake.take_outs.Given as goal

abbrev pub invariant-loop-out : goal.invariant-loop-out
invariant-loop-out g l =
    let t = g.Self.MarkTake in
    record {
      within : l.instance < t.instances l.self;
      takes : TakesMarks (t.took l.fn.self) (t.took l.self) l.instance (marks_of (take l.out-index l.outs));
      instances : t.instances l.self ≡ t.instances l.fn.self;
      kept : t.stops l.self ≡ t.stops l.fn.self;
      going : t.going l.fn.self true → t.going l.self true;
      origin : t.origin l.self ≡ t.origin l.fn.self;
    }
