use Rattle.std.proofs.Common.{arith, get_or}
use Rattle.capture_raw.proofs.Agreeing.{agree_from, all_more}
use Rattle.capture_raw.proofs.alike.agreeing_bytes.Goals as goal

pub loop-done-preserved : goal.loop-done-preserved
loop-done-preserved c =
    let s = c.loop-done in
    let bytes = c.args.bytes.now in
    record {
      order = omega (arith, s.invariant.order);
      within = omega arith;
      agree = all_more c.args.mask c.args.first bytes s.done s.invariant.agree (agree_from c.args.mask (get_or bytes s.done 0) c.args.first (omega arith));
    }
