use Rattle.std.proofs.Common.{refl, inl, arith}
use Rattle.sample_walks.specs.Walks.{walked}
use Rattle.dec_i2c.proofs.held.I2c.open.Goals as goal

pub returns-then-opts-lt-MOST_PINS-2 : goal.returns-then-opts-lt-MOST_PINS-2
unfolding walked
returns-then-opts-lt-MOST_PINS-2 c = (
  (omega (arith, c.if-opts-lt-MOST_PINS.true), omega (arith, c.if-opts-lt-MOST_PINS-2.true)),
  refl,
  refl,
  (inl refl, refl),
)
