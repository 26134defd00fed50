use Rattle.std.proofs.Common.{◌<◌, arith, length}
use Rattle.list_cuts.proofs.Loops.{place_fails, place_passes}
use Rattle.list_cuts.proofs.last.last_where.Goals as goal
use Rattle.list_cuts.proofs.last.last_where.Goals.{else-test, then-test}

pub loop-place-preserved : goal.loop-place-preserved
loop-place-preserved g c =
    let s = c.loop-place in
    let item = c.index-list-place in
    let test = g.P.Test.passes c.args.test.now in
    let within : s.place < length c.args.list.now = omega arith in
    elim c.if-test.branch [
      | then-test w ↦ place_passes c.args.list.now s.place item.result within item.is test c.test.result c.test.ensures c.if-test.last w.last-is w.if-test.true
      | else-test w ↦ place_fails c.args.list.now s.place item.result within item.is test c.test.result c.test.ensures c.if-test.last s.last w.last-is s.invariant w.if-test.false
    ]
