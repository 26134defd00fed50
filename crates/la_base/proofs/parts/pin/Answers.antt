use Rattle.std.proofs.Common.{arith}
use Rattle.la_base.proofs.Halves.{low_high, high_high}
use Rattle.la_base.proofs.parts.pin.Goals as goal

pub returns-then-channel-lt-HALF_BITS : goal.returns-then-channel-lt-HALF_BITS
returns-then-channel-lt-HALF_BITS c = low_high c.args.value c.args.channel c.low_half.result (omega (arith, c.if-channel-lt-HALF_BITS.true)) c.low_half.ensures

pub returns-else-channel-lt-HALF_BITS : goal.returns-else-channel-lt-HALF_BITS
returns-else-channel-lt-HALF_BITS c = high_high c.args.value c.args.channel c.high_half.result (omega (arith, c.if-channel-lt-HALF_BITS.false)) c.high_half.ensures
