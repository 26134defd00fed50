use Rattle.std.proofs.Common.{refl, inl, subst}
use Rattle.sample_walks.specs.Walks.{walked}
use Rattle.dec_onewire.specs.Opening.{FastEnough}
use Rattle.dec_onewire.proofs.link.held.OwLink.open.Goals as goal

pub returns : goal.returns
unfolding walked
returns c = (c.if-not-in_range.ensures, subst FastEnough c.lengths_of-lengths.ensures c.if-not-is_fast.ensures, refl, refl, (inl refl, refl, c.lengths_of-lengths.ensures))
