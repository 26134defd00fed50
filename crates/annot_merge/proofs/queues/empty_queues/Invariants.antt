use Rattle.std.proofs.Common.{◌≡◌, length, []}
use Rattle.std.specs.List.{All}
use Rattle.annot_merge.specs.Queues.{live}
use Rattle.annot_merge.proofs.queues.empty_queues.Given as goal

abbrev pub invariant-loop : goal.invariant-loop
invariant-loop l = record { count : length l.queues.items ≡ l.counter; each : All (λ queue. live queue ≡ []) l.queues.items }
