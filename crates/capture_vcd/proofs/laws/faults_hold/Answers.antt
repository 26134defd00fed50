use Rattle.std.proofs.Common.{refl}
use Rattle.byte_feed.specs.Parts.{parts_from}
use Rattle.capture_vcd.specs.Vcd.{vcd_capture}
use Rattle.capture_vcd.proofs.laws.faults_hold.Goals as goal

pub returns : goal.returns
unfolding vcd_capture parts_from
returns c = record {
  hanging = refl;
  cut_there = refl;
  any_code = refl;
  comment = refl;
  alone = refl;
  large = refl;
  no_scale = refl;
  good_at_end = refl;
  unread = refl;
  size = refl;
  scale = refl;
}
