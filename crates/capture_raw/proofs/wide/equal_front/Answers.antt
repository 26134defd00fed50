use Rattle.std.proofs.Common.{arith}
use Rattle.capture_raw.specs.declared.wide.TheConstants.{BLOCK}
use Rattle.capture_raw.proofs.Fronts.{equal_lists, block_more}
use Rattle.capture_raw.proofs.wide.equal_front.Goals as goal

pub loop-done-preserved : goal.loop-done-preserved
loop-done-preserved c =
    let s = c.loop-done in
    record {
      within = omega arith;
      same = block_more c.args.a.now c.args.b.now s.done BLOCK s.invariant.same (equal_lists _ _ c.if-ne.ensures);
    }
