use Rattle.std.proofs.Common.{bit_and, ◌∷◌, ◌++◌, [], List, sym, subst, arith, length-append}
use Rattle.wait_cond.specs.Conds.{IsExact, IsKept}
use Rattle.wait_cond.specs.declared.alt.Alt.{Alt}
use Rattle.wait_cond.proofs.WatchLemmas.{watch_more, ask_more, skip_more}
use Rattle.wait_cond.proofs.Exact.{exact_two, says_more}
use Rattle.wait_cond.proofs.cond.Cond.add.Goals as goal

pub invariant_of-self : goal.invariant_of-self
invariant_of-self c =
    let s = c.self.inside in
    let kept = c.self.invariant.0 in
    let alts = s.alts.items in
    let items = c.push.ensures.items in
    let all : IsKept (alts ++ c.args.alt ∷ []) c.watched_with-watched.result (bit_and s.high c.high_lines.result) c.min-skip.result c.with-pair.result = record {
      some = omega (arith, length-append alts (c.args.alt ∷ []));
      watches = λ not_zero.
          let how = c.watched_with-watched.ensures not_zero in
          watch_more alts c.args.alt s.watched c.edge_lines.result c.watched_with-watched.result c.edge_lines.ensures (kept.watches how.0) how;
      asks = ask_more alts c.args.alt s.high c.high_lines.result c.high_lines.ensures kept.asks;
      skips = skip_more alts c.args.alt s.skip c.min-skip.result (omega (arith, c.min-skip.ensures)) (omega (arith, c.min-skip.ensures)) kept.skips;
      says = λ exact. says_more s.pair c.with-pair.result alts c.args.alt kept.some kept.says exact c.with-pair.ensures;
    } in (
      subst (λ (l : List Alt). IsKept l c.watched_with-watched.result (bit_and s.high c.high_lines.result) c.min-skip.result c.with-pair.result) (sym items) all,
      λ t. let e = c.says_two-exact.ensures t in
          subst (λ (l : List Alt). IsExact l) (sym items) (exact_two alts c.args.alt (omega (arith, e.1, c.len.ensures)) (c.self.invariant.1 e.0) e.2),
      λ t. absurd cc,
    )
