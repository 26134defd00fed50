use Rattle.std.proofs.Common.{◌≡◌}
use Rattle.capture_csv.specs.Csv.{plain_names}
use Rattle.capture_csv.proofs.opening.plain_names.Given as goal

abbrev pub invariant-loop-channel : goal.invariant-loop-channel
invariant-loop-channel l = l.names ≡ plain_names l.channel
