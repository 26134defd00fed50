use Rattle.std.proofs.Common.{◌≡◌, ◌++◌, take}
use Rattle.std.specs.List.{filter}
use Rattle.view_store.specs.Listings.{is_between}
use Rattle.view_store.proofs.block.push_between.Given as goal

abbrev pub invariant-loop-note : goal.invariant-loop-note
invariant-loop-note l = l.into.items ≡ l.initial.into.items ++ filter (is_between l.start l.end) (take l.note-index l.notes)
