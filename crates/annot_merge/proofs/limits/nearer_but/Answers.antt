use Rattle.std.proofs.Common.{◌∙◌, refl, sym, subst, ℕ, inl, inr}
use Rattle.annot_merge.specs.Limits.{IsBelow}
use Rattle.annot_merge.proofs.LimitLemmas.{next_push}
use Rattle.annot_merge.proofs.limits.nearer_but.Goals as goal

pub returns-then-instance-but : goal.returns-then-instance-but
returns-then-instance-but c = λ bounds len was. next_push bounds c.args.bound c.args.but c.args.limit c.args.limit (λ j one below. below) (λ differ. absurd (differ (len ∙ c.if-instance-but.true))) (inl refl) was

pub returns : goal.returns
returns c = λ bounds len was. next_push bounds c.args.bound c.args.but c.args.limit c.nearer.result c.nearer.ensures.still (λ differ. subst (λ (k : ℕ). IsBelow c.nearer.result c.args.bound k) (sym len) c.nearer.ensures.here)
    (elim c.nearer.ensures.one [
      | inl same ↦ inl same
      | inr new ↦ inr (λ e. c.if-instance-but.false (sym len ∙ e), new.0 ∙ sym len, new.1)
    ])
    was
