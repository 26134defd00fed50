use Rattle.std.proofs.Common.{◌<◌, arith, length}
use Rattle.list_cuts.proofs.Loops.{that_fails, that_passes}
use Rattle.list_cuts.proofs.last.last_that.Goals as goal
use Rattle.list_cuts.proofs.last.last_that.Goals.{else-test, then-test}

pub loop-item-preserved : goal.loop-item-preserved
loop-item-preserved g c =
    let s = c.loop-item in
    let item = c.item-item in
    let test = g.P.Test.passes c.args.test.now in
    let within : s.item-index < length c.args.list.now = omega arith in
    elim c.if-test.branch [
      | then-test w ↦ that_passes c.args.list.now s.item-index item.result within item.is test c.test.result c.test.ensures c.if-test.last w.last-is w.if-test.true
      | else-test w ↦ that_fails c.args.list.now s.item-index item.result within item.is test c.test.result c.test.ensures c.if-test.last s.last w.last-is s.invariant w.if-test.false
    ]
