use Rattle.std.proofs.Common.{length, ◌-◌, ◌≡◌, ◌≤◌, take}
use Rattle.std.specs.Io.KnownBytes.{Appends}
use Rattle.la_io.proofs.whole.write_whole.Given as goal

abbrev pub invariant-loop-done : goal.invariant-loop-done
invariant-loop-done g l = record {
  so_far : Appends (g.K.Sink.written l.initial.sink) (g.K.Sink.written l.sink) (take l.done l.bytes);
  within : l.done ≤ length l.bytes;
  same : g.K.Sink.faults l.sink ≡ g.K.Sink.faults l.initial.sink;
  goes_on : g.K.Sink.goes_on l.initial.sink l.sink;
}

-- proposed from the loop's first test
abbrev pub decreases-loop-done : goal.decreases-loop-done
decreases-loop-done g l = length l.bytes - l.done
