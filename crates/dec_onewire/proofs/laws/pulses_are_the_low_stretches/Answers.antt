use Rattle.dec_onewire.proofs.PulseLaws.{are_pulses}
use Rattle.dec_onewire.proofs.laws.pulses_are_the_low_stretches.Goals as goal

pub returns : goal.returns
returns c = λ line samples. are_pulses line samples
