use Rattle.std.proofs.Common.{arith}
use Rattle.capture_csv.proofs.Numbers.{digit_at}
use Rattle.capture_csv.proofs.times.decimal_at.Goals as goal

pub overflow_sub-decimals : goal.overflow_sub-decimals
overflow_sub-decimals c = let d = digit_at c.args.decimals.now c.args.k c.requires.all c.if-k-decimals.true in omega (arith, d.0)

pub returns-then-k-decimals-clause-small : goal.returns-then-k-decimals-clause-small
returns-then-k-decimals-clause-small c = let d = digit_at c.args.decimals.now c.args.k c.requires.all c.if-k-decimals.true in omega (arith, d.1, c.from.ensures)
