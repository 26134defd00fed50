use Rattle.made_laws.specs.laws.BusBlocks.{made_told}
use Rattle.made_laws.proofs.bus.made_buses_tell.Goals as goal

pub returns : goal.returns
returns g = made_told
