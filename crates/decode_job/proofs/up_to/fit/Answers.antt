use Rattle.std.proofs.Common.{arith}
use Rattle.la_base.proofs.RunLemmas.{count_more}
use Rattle.decode_job.proofs.up_to.fit.Goals as goal

pub loop-place-preserved : goal.loop-place-preserved
loop-place-preserved c =
    let run = c.index-runs-place.result in
    let had = c.loop-place.invariant in
    let more = count_more c.args.runs.now c.loop-place.place run c.loop-place-test.true c.index-runs-place.is in
    omega (arith, had, more, c.if-left-run.false)
