use Rattle.std.proofs.Common.{arith}
use Rattle.list_cuts.proofs.Loops.{groups_more, groups_done, no_groups}
use Rattle.list_cuts.proofs.groups.groups_of.Goals as goal

pub returns-then-size-eq0 : goal.returns-then-size-eq0
returns-then-size-eq0 g c = no_groups _ c.new-lists.result.items c.args.size c.args.list.now c.new-lists.ensures.items (omega arith)

pub loop-rest-preserved : goal.loop-rest-preserved
loop-rest-preserved g c =
    let s = c.loop-rest in (
      s.invariant.0,
      groups_more c.args.size s.invariant.0 s.rest.now c.split_at.result.0.now c.split_at.result.1.now (omega arith) c.split_at.ensures.front c.split_at.ensures.back
          _ _ _ _ _ c.in_ok-push.ensures.items c.in_ok-from_slice.ensures.items s.invariant.1,
    )

pub returns : goal.returns
returns g c =
    let s = c.loop-rest in
    groups_done _ s.lists.items c.args.size s.invariant.0 s.rest.now _ (omega arith) s.invariant.1
