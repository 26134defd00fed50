use Rattle.annot_merge.proofs.LimitLemmas.{first_gone, next_none}
use Rattle.annot_merge.proofs.limits.lead_gone.Goals as goal

pub returns-then-is_none : goal.returns-then-is_none
returns-then-is_none c = λ before bound is was.
    let first = first_gone before c.args.bounds.now bound c.args.lead is c.requires.past was in
    record { least_is = first; others_are = next_none c.args.bounds.now c.args.lead.others c.if-is_none.ensures first }

pub returns : goal.returns
returns c = λ before bound is was.
    let first = first_gone before c.args.bounds.now bound c.args.lead is c.requires.past was in
    record { least_is = first; others_are = c.next_of.ensures first }
