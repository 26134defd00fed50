use Rattle.std.proofs.Common.{◌∙◌, ◌++◌, ◌∷◌, [], ap, sym, arith}
use Rattle.la_base.specs.declared.wires.Mark.{Mark}
use Rattle.la_base.specs.declared.wires.Out.{Out}
use Rattle.std.proofs.lemmas.List.{append-nil}
use Rattle.tree_io.specs.Feeds.{marks_of}
use Rattle.stage_run.specs.Rows.{Kept}
use Rattle.stage_run.proofs.Lists.{marks_made, marks_next, marks_space}
use Rattle.stage_run.proofs.kept.keep_marks.Goals as goal
use Rattle.stage_run.proofs.kept.keep_marks.Goals.{in-Note, in-Piece, in-Packet}

pub push-requires : goal.push-requires
push-requires c = (omega arith, marks_space c.args.outs.now c.loop-out.out-index c.args.marks.now.list c.loop-out.marks.list c.requires c.loop-out-test.true c.loop-out.invariant.0)

pub push-requires-in-Piece : goal.push-requires-in-Piece
push-requires-in-Piece c = (omega arith, marks_space c.args.outs.now c.loop-out.out-index c.args.marks.now.list c.loop-out.marks.list c.requires c.loop-out-test.true c.loop-out.invariant.0)

pub loop-out-preserved : goal.loop-out-preserved
loop-out-preserved c =
    let next = marks_next c.args.outs.now c.loop-out.out-index c.out-item.result c.args.marks.now.list c.loop-out.marks.list c.loop-out-test.true c.out-item.is c.loop-out.invariant.0 in
    let list = λ (r : Kept Mark). r.list in
    let at = λ (r : Kept Mark). r.at in
    elim c.match-out.branch [
      | in-Note w ↦ (ap list (w.marks-is ∙ w.push.ensures) ∙ ap (λ (o : Out). c.loop-out.marks.list ++ marks_of (o ∷ [])) (sym w.in-Note.is) ∙ next, ap at (w.marks-is ∙ w.push.ensures) ∙ c.loop-out.invariant.1)
      | in-Piece w ↦ (ap list (w.marks-is ∙ w.push-in-Piece.ensures) ∙ ap (λ (o : Out). c.loop-out.marks.list ++ marks_of (o ∷ [])) (sym w.in-Piece.is) ∙ next, ap at (w.marks-is ∙ w.push-in-Piece.ensures) ∙ c.loop-out.invariant.1)
      | in-Packet w ↦ (ap list w.marks-is ∙ sym (append-nil c.loop-out.marks.list) ∙ ap (λ (o : Out). c.loop-out.marks.list ++ marks_of (o ∷ [])) (sym w.in-Packet.is) ∙ next, ap at w.marks-is ∙ c.loop-out.invariant.1)
    ]

pub returns-clause-few : goal.returns-clause-few
returns-clause-few c = marks_made c.args.outs.now c.loop-out.out-index c.args.marks.now.list c.loop-out.marks.list c.loop-out.invariant.0
