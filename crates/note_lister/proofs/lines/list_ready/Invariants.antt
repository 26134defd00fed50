use Rattle.std.proofs.Common.{◌≡◌, List, ℕ, length}
use Rattle.la_base.specs.declared.wires.Mark.{Mark}
use Rattle.note_order.specs.declared.entry.Entry.{Entry}
use Rattle.stack_words.specs.Stacks.{stack_meaning}
use Rattle.annot_merge.specs.Held.{Stands, count_of, held_in}
use Rattle.note_lister.specs.Ready.{ListsAll}
use Rattle.note_lister.proofs.lines.list_ready.Given as goal

-- the lines of the notes given so far are written, and those that are shown were seen
abbrev pub invariant-loop-entries : goal.invariant-loop-entries
invariant-loop-entries g l =
    let k = g.K.Sink in
    let w = g.W.Watch in
    record {
      count : count_of l.merge ≡ count_of l.fn.merge;
      lists : (marks : ℕ → List Mark) (given : List Entry) → Stands l.fn.merge marks given
          → ListsAll (stack_meaning l.stack) l.merge (w.saw l.fn.watch) (w.saw l.watch) (k.written l.fn.sink) (k.written l.sink) marks given;
      faults : k.faults l.sink ≡ k.faults l.fn.sink;
      goes_on : k.goes_on l.fn.sink l.sink;
      origin : w.origin l.watch ≡ w.origin l.fn.watch;
    }

abbrev pub decreases-loop-entries : goal.decreases-loop-entries
decreases-loop-entries g l = length (held_in l.merge)
