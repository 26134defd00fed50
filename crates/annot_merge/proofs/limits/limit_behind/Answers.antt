use Rattle.std.proofs.Common.{◌∙◌, ap, ℕ, set}
use Rattle.annot_merge.proofs.limits.limit_behind.Goals as goal

pub returns-then-instance-limit : goal.returns-then-instance-limit
returns-then-instance-limit c = λ before is was.
    c.limit_past.ensures before c.args.bound (is ∙ ap (λ (i : ℕ). set before i c.args.bound) c.if-instance-limit.true) was

pub returns : goal.returns
returns c = λ before is was. c.nearer.ensures.sets before c.args.bounds.now is c.requires.within c.if-instance-limit.false was
