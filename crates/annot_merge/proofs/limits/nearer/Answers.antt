use Rattle.std.proofs.Common.{refl, sym, subst, arith, inl, inr}
use Rattle.annot_merge.specs.Limits.{IsBelow}
use Rattle.annot_merge.proofs.LimitLemmas.{below_lower, limit_left, limit_lowered, nearer_lower, nearer_same}
use Rattle.annot_merge.proofs.limits.nearer.Goals as goal

pub returns-then-is_lower : goal.returns-then-is_lower
returns-then-is_lower c = record {
  next = nearer_lower c.args.limit _ c.args.bound c.in-Some.is c.if-is_lower.ensures.0 c.if-is_lower.ensures.1;
  here = subst (λ b. IsBelow (record { start = c.in-Some.floor; instance = c.args.instance }) b c.args.instance) (sym c.in-Some.is) (omega arith, λ _. omega arith);
  still = λ other one below. below_lower c.args.limit _ one other c.if-is_lower.ensures.0 c.if-is_lower.ensures.1 below;
  one = inr (refl, c.in-Some.is);
  sets = λ before now is within differ was. limit_lowered c.args.limit _ c.args.bound c.in-Some.is c.if-is_lower.ensures.0 c.if-is_lower.ensures.1 before now is within was;
}

pub returns-else-is_lower : goal.returns-else-is_lower
returns-else-is_lower c =
    let below = subst (λ b. IsBelow c.args.limit b c.args.instance) (sym c.in-Some.is) c.if-is_lower.ensures in
    record {
      next = nearer_same c.args.limit c.args.bound c.args.instance below;
      here = below;
      still = λ other one was. was;
      one = inl refl;
      sets = λ before now is within differ was. limit_left c.args.limit before now c.args.instance c.args.bound within is differ below was;
    }

pub returns-in-None : goal.returns-in-None
returns-in-None c =
    let below = subst (λ b. IsBelow c.args.limit b c.args.instance) (sym c.in-None.is) tt in
    record {
      next = nearer_same c.args.limit c.args.bound c.args.instance below;
      here = below;
      still = λ other one was. was;
      one = inl refl;
      sets = λ before now is within differ was. limit_left c.args.limit before now c.args.instance c.args.bound within is differ below was;
    }
