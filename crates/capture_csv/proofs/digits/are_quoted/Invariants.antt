use Rattle.std.proofs.Common.{◌<◌, ℕ}
use Rattle.capture_csv.specs.Digits.{QuotedAt}
use Rattle.capture_csv.proofs.digits.are_quoted.Given as goal

abbrev pub invariant-loop-k : goal.invariant-loop-k
invariant-loop-k l = (k : ℕ) → k < l.k → QuotedAt l.text k
