use Rattle.std.proofs.Common.{◌≡◌}
use Rattle.capture_raw.specs.Raw.{raw_names}
use Rattle.capture_any.proofs.names.channel_names.Given as goal

abbrev pub invariant-loop-channel : goal.invariant-loop-channel
invariant-loop-channel l = l.names ≡ raw_names l.channel
