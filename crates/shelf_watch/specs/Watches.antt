-- What a watch over a shelf stands for.
use Rattle.std.specs.Prelude.{List}
use Rattle.std.proofs.Common.{MutBor}
use Rattle.note_order.specs.declared.entry.Entry.{Entry}
use Rattle.view_store.specs.declared.views.ViewWriter.{ViewWriter}
use Rattle.shelf_watch.specs.Shelves.{HasSeen}
use Rattle.shelf_watch.specs.declared.shelf_watch.ShelfWatch.{ShelfWatch}

-- the reference to its shelf, and what that was when it was lent
abbrev pub shelf_ref : {R : Type 0} → ShelfWatch R → MutBor ViewWriter
shelf_ref watch = watch.shelf

abbrev pub lent_ref : {R : Type 0} → ShelfWatch R → MutBor ViewWriter
lent_ref watch = watch.lent.value

-- it was shown these notes
abbrev pub Saw : {R : Type 0} → ShelfWatch R → List Entry → Type 0
Saw watch entries = HasSeen (lent_ref watch) (shelf_ref watch) entries
