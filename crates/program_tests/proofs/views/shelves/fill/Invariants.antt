use Rattle.std.proofs.Common.{◌≡◌, false}
use Rattle.view_store.specs.Views.{pending, shelf_of}
use Rattle.program_tests.proofs.views.shelves.fill.Given as goal

abbrev pub invariant-loop-start : goal.invariant-loop-start
invariant-loop-start g l = record { shelf : shelf_of l.writer ≡ shelf_of l.initial.writer; going : (pending l.writer).ended ≡ false }
