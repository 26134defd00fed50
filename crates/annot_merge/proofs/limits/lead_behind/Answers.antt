use Rattle.std.proofs.Common.{sym, subst, inl, inr}
use Rattle.annot_merge.specs.Limits.{IsNext}
use Rattle.annot_merge.specs.declared.limit.Limit.{Limit}
use Rattle.annot_merge.proofs.LimitLemmas.{next_set}
use Rattle.annot_merge.proofs.limits.lead_behind.Goals as goal

pub returns : goal.returns
returns c = λ before is was.
    let now = c.args.bounds.now in
    let lead = c.args.lead in
    record {
      least_is = c.nearer-least.ensures.sets before now is c.requires.within c.if-instance-lead.false was.least_is;
      others_are = elim c.nearer-least.ensures.one [
        | inl same ↦ subst (λ (l : Limit). IsNext now l.instance c.nearer.result) (sym same)
            (next_set before now c.args.instance c.args.bound lead.least.instance lead.others c.nearer.result is c.requires.within c.if-instance-lead.false c.if-instance-lead-2.false c.nearer.ensures.still c.nearer.ensures.here c.nearer.ensures.one was.others_are)
        | inr new ↦ absurd (c.if-least-instance.false new.0)
      ];
    }
