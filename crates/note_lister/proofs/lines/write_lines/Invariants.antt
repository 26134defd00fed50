use Rattle.std.proofs.Common.{◌≡◌, take}
use Rattle.std.specs.Io.KnownBytes.{Appends}
use Rattle.stack_words.specs.Stacks.{stack_meaning}
use Rattle.note_lister.specs.Lines.{shown_entries, shown_lines}
use Rattle.note_lister.specs.Watching.{Sees}
use Rattle.note_lister.proofs.lines.write_lines.Given as goal

abbrev pub invariant-loop-entry : goal.invariant-loop-entry
invariant-loop-entry g l =
    let k = g.K.Sink in
    let w = g.W.Watch in
    record {
      written : Appends (k.written l.fn.sink) (k.written l.sink) (shown_lines (stack_meaning l.stack) (take l.entry-index l.entries));
      sees : Sees (w.saw l.fn.watch) (w.saw l.watch) (shown_entries (stack_meaning l.stack) (take l.entry-index l.entries));
      faults : k.faults l.sink ≡ k.faults l.fn.sink;
      goes_on : k.goes_on l.fn.sink l.sink;
      origin : w.origin l.watch ≡ w.origin l.fn.watch;
    }
