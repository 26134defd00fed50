use Rattle.std.proofs.Common.{◌≡◌}
use Rattle.view_store.proofs.views.ViewReader.ask.Given as goal

abbrev pub invariant-loop : goal.invariant-loop
invariant-loop g l = (goal.iterator-loop g).can_next l.iterator' × (goal.iterator-loop g).is_finite l.iterator'
    × (l.self.front.seen.log ≡ l.initial.self.front.seen.log) × (l.self.front.seen.book ≡ l.initial.self.front.seen.book)
