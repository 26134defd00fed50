use Rattle.std.proofs.Common.{◌≡◌, take}
use Rattle.std.specs.List.{filter}
use Rattle.view_store.specs.Blocks.{notes_in}
use Rattle.view_store.specs.Listings.{is_between}
use Rattle.view_store.proofs.store.steps.between.Given as goal

abbrev pub invariant-loop-block : goal.invariant-loop-block
invariant-loop-block l = l.found.items ≡ filter (is_between l.start l.end) (notes_in (take l.block-index l.blocks))
