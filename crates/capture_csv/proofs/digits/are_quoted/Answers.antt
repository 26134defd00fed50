use Rattle.std.proofs.Common.{arith}
use Rattle.capture_csv.proofs.DigitLines.{more_quoted}
use Rattle.capture_csv.proofs.digits.are_quoted.Goals as goal
use Rattle.capture_csv.proofs.digits.are_quoted.Goals.{then-text-k-ne44-via-then-text-k-ne44, then-text-k-ne44-via-else-text-k-ne44+then-not-is_quoted_digit-2}

pub loop-k-preserved : goal.loop-k-preserved
loop-k-preserved c =
    let digit = c.is_quoted_digit-else-text-k-ne44.ensures.digit c.if-not-is_quoted_digit-2.false in
    more_quoted c.args.text.now c.loop-k.k c.loop-k.invariant (digit, λ some. c.if-text-k-ne44.false)

pub returns-clause-digits : goal.returns-clause-digits
returns-clause-digits c = λ e. record {
  some = omega (arith, c.if-count-eq0.false);
  len = c.if-text-count.false;
  each = λ k less. c.loop-k.invariant k (omega (arith, less, c.loop-k-test.false));
}

pub returns-then-text-k-ne44-clause-other : goal.returns-then-text-k-ne44-clause-other
returns-then-text-k-ne44-clause-other c = λ e digits.
    let here = digits.each c.loop-k.k c.loop-k-test.true in
    elim c.then-text-k-ne44.branch [
      | then-text-k-ne44-via-then-text-k-ne44 w ↦ w.if-text-k-ne44.true (here.1 c.loop-k.auto.k)
      | then-text-k-ne44-via-else-text-k-ne44+then-not-is_quoted_digit-2 w ↦ w.is_quoted_digit-else-text-k-ne44.ensures.other w.if-not-is_quoted_digit-2.true here.0
    ]
