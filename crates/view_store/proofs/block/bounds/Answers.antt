use Rattle.std.proofs.Common.{rules, sym, ◌∙◌}
use Rattle.view_store.proofs.Bounds.{one_wider}
use Rattle.view_store.proofs.block.bounds.Goals as goal

pub loop-note-preserved : goal.loop-note-preserved
loop-note-preserved c =
    rw (c.min-first.ensures, c.greater-last.ensures)
    (one_wider c.loop-note.first c.loop-note.last c.args.notes.now c.loop-note.note-index c.note-item.result c.loop-note-test.true c.note-item.is c.loop-note.invariant)
