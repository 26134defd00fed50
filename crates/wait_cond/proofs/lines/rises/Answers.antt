use Rattle.std.proofs.Common.{subst, sym, Option, ℕ, bit_and, bit_xor}
use Rattle.wait_cond.specs.Meets.{Rises, Which}
use Rattle.wait_cond.proofs.Masks.{rises_are}
use Rattle.wait_cond.proofs.lines.rises.Goals as goal

pub returns-in-Some : goal.returns-in-Some
returns-in-Some c = subst (λ (o : Option ℕ). Which (bit_and (bit_xor c.in-Some.before c.args.now) c.args.now) (Rises o c.args.now)) (sym c.in-Some.is) (rises_are c.in-Some.before c.args.now)
