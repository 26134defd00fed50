use Rattle.std.proofs.Common.{ℕ, Option, Some, None, ◌∙◌, sym, ap, arith}
use Rattle.std.proofs.lemmas.Option.{same_Some, slice_get-get_or}
use Rattle.annot_merge.proofs.LimitLemmas.{behind_more, past_is}
use Rattle.annot_merge.proofs.limits.limit_past.Goals as goal

pub returns-then-is_at : goal.returns-then-is_at
returns-then-is_at c = λ before bound is was.
    let now = c.args.bounds.now in
    past_is c.args.limit before now bound c.loop-at.at is was c.loop-at.invariant.from c.loop-at.invariant.behind
    (slice_get-get_or now c.loop-at.at None c.loop-at-test.true ∙ ap (λ (b : Option ℕ). Some b) c.if-is_at.ensures)

pub loop-at-preserved : goal.loop-at-preserved
loop-at-preserved c =
    let now = c.args.bounds.now in
    record {
      from = omega (arith, c.loop-at.invariant.from);
      behind = behind_more now c.args.limit.start c.args.limit.instance c.loop-at.at c.loop-at.invariant.behind
          (λ floor got. c.if-not-is_behind.ensures floor (same_Some _ (Some floor) (sym (slice_get-get_or now c.loop-at.at None c.loop-at-test.true) ∙ got)));
    }
