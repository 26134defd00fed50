use Rattle.decoder_set.proofs.Carried.{reads_its_wire}
use Rattle.decoder_set.proofs.laws.kinds_read_their_wires.Goals as goal

pub returns : goal.returns
returns c = reads_its_wire
