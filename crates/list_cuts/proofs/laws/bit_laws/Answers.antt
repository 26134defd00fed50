use Rattle.list_cuts.proofs.BitLaws.{high_push, high_below, low_push, low_below}
use Rattle.list_cuts.proofs.laws.bit_laws.Goals as goal

pub returns : goal.returns
returns c = record {
  high = high_push;
  high_below = high_below;
  low = low_push;
  low_below = low_below;
}
