use Rattle.std.proofs.Common.{arith}
use Rattle.la_base.specs.declared.samples.TheConstants.{MOST_PINS}
use Rattle.capture_raw.proofs.Agreeing.{covers_more}
use Rattle.capture_raw.proofs.units.mask_of.Goals as goal

pub loop-place-preserved : goal.loop-place-preserved
loop-place-preserved c =
    let s = c.loop-place in
    record {
      within = omega arith;
      covers = covers_more s.mask c.args.pins.now s.place MOST_PINS (c.requires.within s.place (omega arith)) s.invariant.covers;
    }
