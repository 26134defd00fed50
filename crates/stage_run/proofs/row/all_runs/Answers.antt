use Rattle.std.proofs.Common.{◌∙◌, arith, refl}
use Rattle.std.proofs.lemmas.List.{length-set}
use Rattle.stage_run.specs.declared.input.HalfRun.{HalfRun}
use Rattle.stage_run.proofs.Coming.{pushed_told, put_items}
use Rattle.stage_run.proofs.row.all_runs.Goals as goal

pub loop-place-preserved : goal.loop-place-preserved
loop-place-preserved c =
    let none : HalfRun = record { value = 0; len = 0 } in
    let xs = c.args.half_runs.now in
    let upper = c.args.upper in
    let i = c.loop-place.place in
    let had = c.loop-place.invariant in (
      length-set c.loop-place.room i _ ∙ had.0,
      put_items upper xs i none c.loop-place.room _ c.loop-place-test.true (omega (arith, c.loop-place-test.true, c.requires, had.0)) had.2 c.whole-run.ensures refl had.1,
      pushed_told upper xs i none c.loop-place-test.true upper had.2 (omega (arith, c.if-half_run-eq0.false)),
    )
