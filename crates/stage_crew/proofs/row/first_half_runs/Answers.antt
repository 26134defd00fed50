use Rattle.std.proofs.Common.{◌∙◌, ap, arith, sym}
use Rattle.std.proofs.lemmas.List.{length-set}
use Rattle.stage_run.specs.Inputs.{half_run_of, upper_of}
use Rattle.stage_crew.proofs.Pumping.{row_next, uppers_next}
use Rattle.stage_crew.proofs.row.first_half_runs.Goals as goal

pub loop-place-preserved : goal.loop-place-preserved
loop-place-preserved c =
    let runs = c.args.runs.now in
    let i = c.loop-place.place in
    let run = c.index-runs-place.result in
    let is = c.index-runs-place.is in
    let had = c.loop-place.invariant in (
      length-set c.loop-place.room i _ ∙ had.0,
      row_next runs i run c.loop-place.room _ (omega arith) (omega arith) (c.of.ensures ∙ ap half_run_of is) had.1,
      uppers_next c.args.upper runs i run (omega arith) (ap upper_of (sym is) ∙ sym c.high_half.ensures ∙ c.if-high_half-upper.false) had.2,
    )
