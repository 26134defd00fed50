use Rattle.std.proofs.Common.{refl, inl}
use Rattle.sample_walks.specs.Walks.{walked}
use Rattle.dec_uart.proofs.held.Uart.open.Goals as goal

pub returns : goal.returns
unfolding walked
returns c = (c.if-not-in_range.ensures, c.if-not-is_fast.ensures, refl, refl, (inl refl, refl))
