use Rattle.std.proofs.Common.{◌≡◌, true, take}
use Rattle.std.specs.List.{list_all}
use Rattle.view_store.specs.Listings.{is_between}
use Rattle.view_store.proofs.block.bounds.Given as goal

abbrev pub invariant-loop-note : goal.invariant-loop-note
invariant-loop-note l = list_all (is_between l.first l.last) (take l.note-index l.notes) ≡ true
