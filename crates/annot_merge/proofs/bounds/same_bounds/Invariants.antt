use Rattle.std.proofs.Common.{◌≡◌, length}
use Rattle.std.specs.List.{All}
use Rattle.annot_merge.proofs.bounds.same_bounds.Given as goal

abbrev pub invariant-loop : goal.invariant-loop
invariant-loop l = record { count : length l.bounds.items ≡ l.counter; each : All (λ one. one ≡ l.bound) l.bounds.items }
