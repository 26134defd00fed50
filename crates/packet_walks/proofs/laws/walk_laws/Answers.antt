use Rattle.packet_walks.specs.Promises.{Reached}
use Rattle.packet_walks.specs.laws.WalkLaws.{walk_promises, walk_floor}
use Rattle.packet_walks.proofs.laws.walk_laws.Goals as goal

pub returns : goal.returns
returns g c = λ w wants gives outs kept sound pushed. record {
  all = walk_promises w outs kept pushed gives (Reached wants kept) sound wants;
  floor = walk_floor w outs kept pushed gives (Reached wants kept) sound wants;
}
