use Rattle.std.proofs.Common.{◌∙◌, ◌++◌, ◌∷◌, [], ap, sym, arith, List}
use Rattle.la_base.specs.declared.wires.Out.{Out}
use Rattle.std.proofs.lemmas.List.{append-nil}
use Rattle.stack_laws.specs.Feeds.{feeds_of}
use Rattle.la_base.specs.declared.wires.Feed.{Feed}
use Rattle.stage_run.specs.Rows.{Kept}
use Rattle.stage_run.proofs.Lists.{none_in, feeds_made, feeds_next, feeds_space}
use Rattle.stage_run.proofs.kept.keep_feeds.Goals as goal
use Rattle.stage_run.proofs.kept.keep_feeds.Goals.{in-Packet, in_default}

pub push-requires : goal.push-requires
push-requires c = (omega arith, feeds_space c.args.outs.now c.loop-out.out-index c.args.feeds.now.list c.loop-out.feeds.list c.requires c.loop-out-test.true c.loop-out.invariant.0)

pub loop-out-preserved : goal.loop-out-preserved
loop-out-preserved c =
    let next = feeds_next c.args.outs.now c.loop-out.out-index c.out-item.result c.args.feeds.now.list c.loop-out.feeds.list c.loop-out-test.true c.out-item.is c.loop-out.invariant.0 in
    let list = λ (r : Kept Feed). r.list in
    let at = λ (r : Kept Feed). r.at in
    elim c.match-out.branch [
      | in-Packet w ↦ (ap list (w.feeds-is ∙ w.push.ensures) ∙ ap (λ (o : Out). c.loop-out.feeds.list ++ feeds_of (o ∷ [])) (sym w.in-Packet.is) ∙ next, ap at (w.feeds-is ∙ w.push.ensures) ∙ c.loop-out.invariant.1)
      | in_default w ↦ (ap list w.feeds-is ∙ sym (append-nil c.loop-out.feeds.list) ∙ ap (λ (l : List Feed). c.loop-out.feeds.list ++ l) (sym (none_in c.out-item.result w.in_default.not-Packet)) ∙ next, ap at w.feeds-is ∙ c.loop-out.invariant.1)
    ]

pub returns-clause-few : goal.returns-clause-few
returns-clause-few c = feeds_made c.args.outs.now c.loop-out.out-index c.args.feeds.now.list c.loop-out.feeds.list c.loop-out.invariant.0
