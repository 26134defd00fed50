use Rattle.std.proofs.Common.{◌≡◌, length}
use Rattle.la_io.specs.Buffer.{BufferGoesOn, HandsOn, behind, held_by}
use Rattle.la_io.proofs.buffered.Buffered.flush.Given as goal

abbrev pub invariant-loop-self : goal.invariant-loop-self
invariant-loop-self g l = record {
  handed : HandsOn g.K.Sink.written l.initial.self l.self;
  same : g.K.Sink.faults (behind l.self) ≡ g.K.Sink.faults (behind l.initial.self);
  goes_on : BufferGoesOn g.K.Sink.written g.K.Sink.goes_on l.initial.self l.self;
}

abbrev pub decreases-loop-self : goal.decreases-loop-self
decreases-loop-self g l = length (held_by l.self)
