use Rattle.sample_walks.specs.Promises.{Reached, Began}
use Rattle.sample_walks.specs.laws.WalkLaws.{outs_quiet, one_stop, outs_nothing, outs_prefix, outs_order, outs_few, outs_floor, outs_packets}
use Rattle.sample_walks.proofs.laws.walk_laws.Goals as goal

pub returns : goal.returns
returns g c = λ w outs sound same. record {
  quiet = outs_quiet w (Reached w) (Began w) sound outs same;
  one_stop = one_stop w (Reached w) (Began w) sound;
  nothing = outs_nothing w (Reached w) (Began w) sound outs same;
  prefix = outs_prefix w (Reached w) (Began w) sound outs same;
  order = outs_order w (Reached w) (Began w) sound outs same;
  few = outs_few w (Reached w) (Began w) sound outs same;
  floor = outs_floor w (Reached w) (Began w) sound outs same;
  packets = outs_packets w (Reached w) (Began w) sound outs same;
}
