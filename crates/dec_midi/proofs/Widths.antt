-- How long small numbers are as text.
use Rattle.std.proofs.Common.{ℕ, ◌<◌, ◌≤◌, length, arith}
use Rattle.std.proofs.lemmas.Fmt.{length-decimal-le}
use Rattle.std.specs.Fmt.{decimal}

-- a number below 100,000 has at most five digits
pub short_decimal : (n : ℕ) → n < 100000 → length (decimal n) ≤ 5
short_decimal n small = length-decimal-le 5 n (omega arith) (omega arith) (omega arith)
