use Rattle.decoder_core.proofs.Counting.{samples_are}
use Rattle.decoder_core.proofs.timed.rest_of.Goals as goal

pub returns-then-len-gt0-clause-samples : goal.returns-then-len-gt0-clause-samples
returns-then-len-gt0-clause-samples c = samples_are _
