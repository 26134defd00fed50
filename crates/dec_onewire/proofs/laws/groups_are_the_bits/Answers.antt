use Rattle.dec_onewire.proofs.SegmentLaws.{segment_keeps}
use Rattle.dec_onewire.proofs.laws.groups_are_the_bits.Goals as goal

pub returns : goal.returns
returns c = λ bits. segment_keeps bits
