use Rattle.std.proofs.Common.{◌≡◌, false}
use Rattle.view_store.specs.Views.{pending, shelf_of}
use Rattle.shelf_trial.proofs.add.Given as goal

abbrev pub invariant-loop-at : goal.invariant-loop-at
invariant-loop-at g l = ((pending l.writer).ended ≡ false) × (shelf_of l.writer ≡ shelf_of l.initial.writer)
