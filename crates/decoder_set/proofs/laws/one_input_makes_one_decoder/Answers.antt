use Rattle.decoder_set.specs.laws.OneDecoder.{same_decoder}
use Rattle.decoder_set.proofs.laws.one_input_makes_one_decoder.Goals as goal

pub returns : goal.returns
returns c = same_decoder c.args.one.now c.args.other.now
