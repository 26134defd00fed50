use Rattle.std.proofs.Common.{refl}
use Rattle.byte_feed.specs.Parts.{parts_from}
use Rattle.byte_feed.proofs.laws.lines_hold.Goals as goal

pub returns : goal.returns
unfolding parts_from
returns c = record {
  ends = refl;
  cut = refl;
  returns = refl;
  marked = refl;
  marked_once = refl;
  mark_alone = refl;
  cut_mark = refl;
  return_alone = refl;
  none = refl;
}
