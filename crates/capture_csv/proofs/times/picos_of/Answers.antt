use Rattle.std.proofs.Common.{arith}
use Rattle.capture_csv.proofs.Numbers.{power}
use Rattle.capture_csv.proofs.times.picos_of.Goals as goal

pub overflow_mul-number : goal.overflow_mul-number
overflow_mul-number c =
    let few = power c.loop-k.k 11 (omega (arith, c.loop-k-test.true)) in
    omega (arith, few, c.loop-k.invariant.small)

pub overflow_add-number : goal.overflow_add-number
overflow_add-number c =
    let few = power c.loop-k.k 11 (omega (arith, c.loop-k-test.true)) in
    omega (arith, few, c.loop-k.invariant.small, c.decimal_at.ensures.small)
