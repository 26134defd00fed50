use Rattle.std.proofs.Common.{◌≡◌}
use Rattle.view_store.specs.Views.{reader_shelf}
use Rattle.program_tests.proofs.views.shelves.watch.Given as goal

abbrev pub invariant-loop : goal.invariant-loop
invariant-loop g l = (goal.iterator-loop g).can_next l.iterator' × (goal.iterator-loop g).is_finite l.iterator' × (reader_shelf l.reader ≡ reader_shelf l.initial.reader)
