use Rattle.capture_csv.proofs.DigitLines.{more_digits}
use Rattle.capture_csv.proofs.digits.are_digits.Goals as goal
use Rattle.capture_csv.proofs.digits.are_digits.Goals.{then-text-k-ne44-via-then-text-k-ne44, then-text-k-ne44-via-else-text-k-ne44+then-not-is_digit-2}

pub loop-k-preserved : goal.loop-k-preserved
loop-k-preserved c =
    let digit = c.is_digit-else-text-k-ne44.ensures.level c.if-not-is_digit-2.false in
    more_digits c.args.text.now c.loop-k.k c.loop-k.invariant (digit.0, digit.1, λ some. c.if-text-k-ne44.false)

pub returns-then-text-k-ne44-clause-other : goal.returns-then-text-k-ne44-clause-other
returns-then-text-k-ne44-clause-other c = λ e digits.
    let here = digits.each c.loop-k.k c.loop-k-test.true in
    elim c.then-text-k-ne44.branch [
      | then-text-k-ne44-via-then-text-k-ne44 w ↦ w.if-text-k-ne44.true (here.2 c.loop-k.auto.k)
      | then-text-k-ne44-via-else-text-k-ne44+then-not-is_digit-2 w ↦ w.is_digit-else-text-k-ne44.ensures.other w.if-not-is_digit-2.true here.0 here.1
    ]
