use Rattle.std.proofs.Common.{arith, refl}
use Rattle.capture_raw.specs.declared.alike.TheConstants.{SHORT_BLOCK}
use Rattle.capture_raw.proofs.Agreeing.{all_block}
use Rattle.capture_raw.proofs.alike.agreeing_blocks.Goals as goal

pub loop-done-preserved : goal.loop-done-preserved
loop-done-preserved c =
    let s = c.loop-done in
    record {
      order = omega (arith, s.invariant.order);
      within = omega arith;
      agree = all_block c.args.mask c.args.first c.args.bytes.now s.done SHORT_BLOCK (omega arith) s.invariant.agree (c.if-not-block_agrees.ensures refl);
    }
