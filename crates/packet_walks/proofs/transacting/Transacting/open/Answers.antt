use Rattle.std.proofs.Common.{refl}
use Rattle.packet_walks.specs.laws.Steps.{held_of}
use Rattle.packet_walks.proofs.transacting.Transacting.open.Goals as goal

pub returns : goal.returns
unfolding held_of
returns g c = refl
