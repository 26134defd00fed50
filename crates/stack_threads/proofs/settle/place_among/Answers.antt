use Rattle.std.proofs.Common.{◌∙◌, arith}
use Rattle.stack_threads.proofs.Tying.{on_next}
use Rattle.stack_threads.proofs.settle.place_among.Goals as goal
use Rattle.stack_threads.proofs.settle.place_among.Goals.{then-same_place, else-same_place}

pub loop-before-preserved : goal.loop-before-preserved
loop-before-preserved c =
    let i = c.loop-before.before in
    let had = c.loop-before.invariant in
    elim c.if-same_place.branch [
      | then-same_place w ↦ (
        w.place-is ∙ omega (arith, had.0) ∙ on_next c.args.parent c.args.parents.now i _ _ (omega (arith, c.loop-before-test.true, c.requires)) w.if-same_place.ensures,
        omega (arith, w.place-is, had.1),
      )
      | else-same_place w ↦ (
        w.place-is ∙ had.0 ∙ on_next c.args.parent c.args.parents.now i _ _ (omega (arith, c.loop-before-test.true, c.requires)) w.if-same_place.ensures,
        omega (arith, w.place-is, had.1),
      )
    ]
