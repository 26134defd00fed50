use Rattle.std.proofs.Common.{◌≡◌, ◌<◌, [], take, true, false}
use Rattle.std.specs.Prelude.{IsSome}
use Rattle.tree_io.specs.Feeds.{TakesMarks, marks_of}
use Rattle.note_lister.specs.Taking.{cause_of, sink_of, Goes, SameOrigin, Took, instances_of, merges_in, stops_of}
use Rattle.note_lister.proofs.lister.Lister.outs_apart.Given as goal

abbrev pub invariant-loop-out : goal.invariant-loop-out
invariant-loop-out g l =
    let k = g.K.Sink in
    let w = g.W.Watch in
    record {
      within : l.instance < instances_of l.self;
      apart : merges_in l.self ≡ false;
      adds : TakesMarks (Took k.written k.faults k.goes_on w.saw l.fn.self) (Took k.written k.faults k.goes_on w.saw l.self) l.instance (marks_of (take l.out-index l.outs));
      instances : instances_of l.self ≡ instances_of l.fn.self;
      kept : stops_of l.self ≡ stops_of l.fn.self;
      going : Goes true l.fn.self → Goes true l.self;
      origin : SameOrigin w.origin l.fn.self l.self;
      cause_is : cause_of l.self ≡ cause_of l.fn.self;
      faults : k.faults (sink_of l.self) ≡ k.faults (sink_of l.fn.self);
      same : IsSome (cause_of l.fn.self) → l.self ≡ l.fn.self;
      none : IsSome (cause_of l.fn.self) → marks_of (take l.out-index l.outs) ≡ [];
    }
