-- A line of a sample, asked by its mask.
use Rattle.std.proofs.Common.{◌≡◌, ℕ, zero, suc, ◌*◌, ◌^◌, ◌<◌, Bool, ◌∙◌, ap, arith, ◌==◌}
use Rattle.std.specs.Prelude.{not}
use Rattle.std.specs.Int.{bit_at}
use Rattle.std.specs.Int.Bits.{bit_and}
use Rattle.std.proofs.lemmas.Nat.{pow_pos}
use Rattle.std.proofs.lemmas.Nat.Bits.{and_pow, bit_at-lt}
use Rattle.la_base.specs.Samples.{is_high}
use Rattle.list_cuts.proofs.TestLaws.{test_yes, test_no}

-- a bit that is 0 or 1, times a number above 0
any_of : (b p : ℕ) → b < 2 → 0 < p → not (b * p == 0) ≡ (b == 1)
any_of zero p below pos = ap not (test_yes (0 * p) 0 (omega arith))
any_of (suc zero) p below pos = ap not (test_no (1 * p) 0 (λ e. absurd (omega (arith, e, pos))))
any_of (suc (suc b)) p below pos = absurd (omega (arith, below))

-- some of a mask of one line is set where the line is high
pub line_reads : (value line : ℕ) → not (bit_and value (2 ^ line) == 0) ≡ is_high value line
line_reads value line = ap (λ (n : ℕ). not (n == 0)) (and_pow value line) ∙ any_of (bit_at value line) (2 ^ line) (bit_at-lt value line) (pow_pos line)
