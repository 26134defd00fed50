use Rattle.std.proofs.Common.{refl}
use Rattle.shelf_watch.specs.Watches.{lent_ref, shelf_ref}
use Rattle.shelf_watch.proofs.Adding.{one_more}
use Rattle.shelf_watch.proofs.shelf_watch.ShelfWatchWatch.see.Goals as goal

pub returns-clause-ok : goal.returns-clause-ok
returns-clause-ok g c = λ before had.
    let watch = c.make_room.new.self in
    let e = c.in_ok-add.ensures in
    one_more (lent_ref watch) (shelf_ref watch) _ before c.args.entry.now refl e.shelf e.published e.ok (c.in_ok-make_room.ensures.saw before had)
