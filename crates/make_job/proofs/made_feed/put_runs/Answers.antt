use Rattle.std.proofs.Common.{refl, ◌∙◌, ap, arith}
use Rattle.std.proofs.lemmas.List.{take_rest}
use Rattle.la_base.specs.Runs.{samples_of}
use Rattle.make_job.proofs.MadeGiving.{one_more, put_more}
use Rattle.make_job.proofs.made_feed.put_runs.Goals as goal

pub loop-at-preserved : goal.loop-at-preserved
loop-at-preserved c =
    let at = c.loop-at.at in
    let len = c.alike-len.result in
    let samples = c.args.samples.now in
    let invariant = c.loop-at.invariant in
    record {
      within = omega (arith, c.loop-at-test.true, c.alike-len.ensures.within);
      few = let more = one_more c.loop-at.into c.push.new.self _ c.push.ensures in omega (arith, more, invariant.few, c.alike-len.ensures.some);
      put = ap samples_of c.push.ensures ∙ put_more samples _ c.loop-at.into _ at len (take_rest samples at) c.alike-len.ensures.alike refl refl invariant.put;
    }
