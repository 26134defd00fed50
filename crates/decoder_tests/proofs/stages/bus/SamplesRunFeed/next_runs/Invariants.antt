use Rattle.std.proofs.Common.{◌≡◌}
use Rattle.decoder_tests.proofs.stages.bus.SamplesRunFeed.next_runs.Given as goal

abbrev pub invariant-loop : goal.invariant-loop
invariant-loop l = l.self.given ≡ l.initial.self.given
