use Rattle.std.proofs.Common.{◌≤◌, length, arith}
use Rattle.std.proofs.lemmas.Bool.Decides.{nat_tests}
use Rattle.capture_raw.proofs.Agreeing.{gathers_more, agree_gathered}
use Rattle.capture_raw.proofs.alike.block_agrees.Goals as goal

pub loop-place-preserved : goal.loop-place-preserved
loop-place-preserved c =
    let s = c.loop-place in
    record {
      within = omega arith;
      gathers = gathers_more c.args.first c.args.bytes.now s.different s.place s.invariant.gathers;
    }

pub returns : goal.returns
returns c =
    let s = c.loop-place in
    let all : length c.args.bytes.now ≤ s.place = omega arith in
    λ alike k below. agree_gathered c.args.mask c.args.first c.args.bytes.now s.different s.place s.invariant.gathers (grind (arith, nat_tests, alike)) k (omega (arith, all, below))
