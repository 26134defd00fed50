use Rattle.std.proofs.Common.{◌∙◌, sym, arith}
use Rattle.std.proofs.lemmas.List.{take_rest}
use Rattle.capture_csv.proofs.Trimming.{marks_left, marks_all}
use Rattle.capture_csv.proofs.spaces.without_marks.Goals as goal

pub loop-at-smaller : goal.loop-at-smaller
loop-at-smaller c =
    let more = marks_left c.args.line.now c.loop-at.at (sym c.starts_with.ensures.value ∙ c.loop-at-test.true) in
    omega (arith, more.0)

pub loop-at-preserved : goal.loop-at-preserved
loop-at-preserved c =
    let more = marks_left c.args.line.now c.loop-at.at (sym c.starts_with.ensures.value ∙ c.loop-at-test.true) in
    record { within = more.0; same = more.1 ∙ c.loop-at.invariant.same }

pub returns : goal.returns
returns c = take_rest c.args.line.now c.loop-at.at ∙ marks_all c.args.line.now c.loop-at.at (sym c.starts_with.ensures.value ∙ c.loop-at-test.false) ∙ c.loop-at.invariant.same
