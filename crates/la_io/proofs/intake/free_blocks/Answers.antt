use Rattle.std.proofs.Common.{arith}
use Rattle.la_io.proofs.Dropping.{block_kept}
use Rattle.la_io.proofs.intake.free_blocks.Goals as goal

pub loop-at-preserved : goal.loop-at-preserved
loop-at-preserved c =
    let s = c.loop-at in
    record {
      more = omega (arith, s.invariant.more);
      within = omega (arith, c.loop-at-test.true);
      none = block_kept c.args.bytes.now c.args.from s.at 64 c.args.byte s.invariant.more (omega (arith, c.loop-at-test.true, s.invariant.within)) s.invariant.none (c.has.ensures c.if-has.false);
    }
