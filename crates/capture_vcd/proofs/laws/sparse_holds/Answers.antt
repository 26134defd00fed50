use Rattle.std.proofs.Common.{refl}
use Rattle.byte_feed.specs.Parts.{parts_from}
use Rattle.capture_vcd.specs.Vcd.{vcd_capture}
use Rattle.capture_vcd.proofs.laws.sparse_holds.Goals as goal

pub returns : goal.returns
unfolding vcd_capture parts_from
returns c = record {
  ending = refl;
  settled = refl;
}
