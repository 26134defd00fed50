use Rattle.std.proofs.Common.{List, sym, subst}
use Rattle.wait_cond.specs.Conds.{IsExact, IsKept, IsTimer}
use Rattle.wait_cond.specs.declared.alt.Alt.{Alt}
use Rattle.wait_cond.proofs.Exact.{exact_one, kept_one, kept_timer, timer_one}
use Rattle.wait_cond.proofs.cond.Cond.set_one.Goals as goal

pub invariant_of-self : goal.invariant_of-self
invariant_of-self c =
    let items = c.keep_one.ensures in
    let only = c.only_skips-timer.ensures c.if-timer.true in (
      subst (λ (l : List Alt). IsKept l 0 0 c.args.alt.skip c.self.inside.pair) (sym items) (kept_timer c.args.alt c.self.inside.pair only),
      λ t. absurd cc,
      λ t. subst (λ (l : List Alt). IsTimer l c.args.alt.skip) (sym items) (timer_one c.args.alt only),
    )

pub invariant_of-self-2 : goal.invariant_of-self-2
invariant_of-self-2 c =
    let items = c.keep_one-2.ensures in (
      subst (λ (l : List Alt). IsKept l c.edge_lines-self-inside.result c.high_lines-self-inside.result c.args.alt.skip c.one-self-inside.result) (sym items)
          (kept_one c.args.alt c.edge_lines-self-inside.result c.high_lines-self-inside.result c.one-self-inside.result c.edge_lines-self-inside.ensures c.high_lines-self-inside.ensures c.one-self-inside.ensures),
      λ t. subst (λ (l : List Alt). IsExact l) (sym items) (exact_one c.args.alt (c.says_all-self-inside.ensures t)),
      λ t. absurd cc,
    )
