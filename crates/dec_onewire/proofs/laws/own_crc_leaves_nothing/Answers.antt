use Rattle.dec_onewire.proofs.SegmentLaws.{own_crc}
use Rattle.dec_onewire.proofs.laws.own_crc_leaves_nothing.Goals as goal

pub returns : goal.returns
returns c = λ bytes. own_crc bytes
