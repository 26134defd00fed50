use Rattle.std.proofs.Common.{◌<◌, ℕ}
use Rattle.capture_csv.specs.Digits.{DigitAt}
use Rattle.capture_csv.proofs.digits.are_digits.Given as goal

abbrev pub invariant-loop-k : goal.invariant-loop-k
invariant-loop-k l = (k : ℕ) → k < l.k → DigitAt l.text k
