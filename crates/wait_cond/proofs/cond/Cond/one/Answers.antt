use Rattle.std.proofs.Common.{◌∷◌, ◌++◌, [], List, sym, ◌∙◌, ap, subst}
use Rattle.wait_cond.specs.Conds.{IsExact, IsKept, IsTimer}
use Rattle.wait_cond.specs.declared.alt.Alt.{Alt}
use Rattle.wait_cond.proofs.Exact.{exact_one, kept_one, timer_one}
use Rattle.wait_cond.proofs.cond.Cond.one.Goals as goal

pub invariant_of-result : goal.invariant_of-result
invariant_of-result c =
    let items = c.push.ensures.items ∙ ap (λ (l : List Alt). l ++ c.args.alt ∷ []) c.new-alts.ensures in (
      subst (λ (l : List Alt). IsKept l c.edge_lines-watched.result c.high_lines-high.result c.args.alt.skip c.one-pair.result) (sym items)
          (kept_one c.args.alt c.edge_lines-watched.result c.high_lines-high.result c.one-pair.result c.edge_lines-watched.ensures c.high_lines-high.ensures c.one-pair.ensures),
      λ t. subst (λ (l : List Alt). IsExact l) (sym items) (exact_one c.args.alt (c.says_all-exact.ensures t)),
      λ t. subst (λ (l : List Alt). IsTimer l c.args.alt.skip) (sym items) (timer_one c.args.alt (c.only_skips-timer.ensures t)),
    )
