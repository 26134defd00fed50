-- A byte is the number of its bits.
use Rattle.std.proofs.Common.{◌≡◌, inl, inr, ℕ, suc, ◌+◌, ◌*◌, ◌/◌, ◌%◌, ◌<◌, ◌^◌, ◌∙◌, sym, ap, arith}
use Rattle.std.specs.Int.{bit_at}
use Rattle.std.proofs.Math.Nat.{div-one, div-div-eq-div-mul, pow-suc}
use Rattle.std.proofs.lemmas.Bool.{cases_eq}
use Rattle.la_base.specs.Samples.{is_high}
use Rattle.list_cuts.specs.Bits.{bit_of, low_first}
use Rattle.list_cuts.proofs.TestLaws.{test_yes, test_no}
use Rattle.capture_make.specs.Made.{low_bits}

-- a line of a sample as a number
high_number : (value i : ℕ) → bit_of (is_high value i) ≡ value / 2 ^ i % 2
high_number value i = elim (cases_eq (bit_at value i) 1) [
  | inl one ↦ ap bit_of (test_yes (bit_at value i) 1 one) ∙ sym one
  | inr none ↦ ap bit_of (test_no (bit_at value i) 1 none) ∙ omega (arith, none)
]

-- the bits from one on are that bit and twice those behind it
from_bit : (value i : ℕ) → value / 2 ^ i ≡ bit_of (is_high value i) + 2 * (value / 2 ^ suc i)
from_bit value i =
    let half : value / 2 ^ i / 2 ≡ value / 2 ^ suc i = div-div-eq-div-mul value (2 ^ i) 2 ∙ ap (λ (d : ℕ). value / d) (sym (pow-suc 2 i)) in
    omega (arith, half, high_number value i)

-- the bits of a byte, lowest first, make up the byte
pub byte_again : (value : ℕ) → value < 256 → low_first (low_bits value) ≡ value
byte_again value small =
    let none : value / 2 ^ 8 ≡ 0 = omega (arith, small) in
    let whole : value / 2 ^ 0 ≡ value = div-one value in
    omega (arith, none, whole, from_bit value 0, from_bit value 1, from_bit value 2, from_bit value 3, from_bit value 4, from_bit value 5, from_bit value 6, from_bit value 7)
