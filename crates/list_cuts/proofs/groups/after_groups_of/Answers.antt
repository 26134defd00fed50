use Rattle.std.proofs.Common.{◌∙◌, arith, sym}
use Rattle.list_cuts.proofs.GroupLaws.{after_groups_few, after_groups_of_none}
use Rattle.list_cuts.proofs.Loops.{behind_more}
use Rattle.list_cuts.proofs.groups.after_groups_of.Goals as goal

pub returns-then-size-eq0 : goal.returns-then-size-eq0
returns-then-size-eq0 g c = sym (after_groups_of_none c.args.size c.args.list.now (omega arith))

pub loop-left-preserved : goal.loop-left-preserved
loop-left-preserved g c =
    let s = c.loop-left in (
      s.invariant.0,
      behind_more c.args.size s.invariant.0 s.left.now c.split_at.result.0.now c.split_at.result.1.now (omega arith) c.split_at.ensures.front c.split_at.ensures.back _ s.invariant.1,
    )

pub returns : goal.returns
returns g c =
    let s = c.loop-left in
    sym (after_groups_few c.args.size s.invariant.0 s.left.now (omega arith)) ∙ s.invariant.1
