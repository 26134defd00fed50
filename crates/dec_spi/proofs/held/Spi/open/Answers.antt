use Rattle.std.proofs.Common.{refl, inl}
use Rattle.sample_walks.specs.Walks.{walked}
use Rattle.dec_spi.proofs.held.Spi.open.Goals as goal

pub returns : goal.returns
unfolding walked
returns c = (c.if-not-in_range.ensures, refl, (inl refl, refl))
