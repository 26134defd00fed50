-- The bits of a word are those of its halves.
use Rattle.std.proofs.Common.{◌≡◌, ℕ, ◌+◌, ◌-◌, ◌*◌, ◌/◌, ◌%◌, ◌^◌, ◌≤◌, ◌<◌, ap, sym, ◌∙◌, arith}
use Rattle.std.specs.Prelude.{nat_eq}
use Rattle.std.specs.Int.{bit_at}
use Rattle.std.specs.Int.Bits.{bit_and}
use Rattle.std.proofs.lemmas.Nat.Bits.{bit_at_cat_low, bit_at_cat_high, bit_at-zero, shr_and_one}
use Rattle.la_base.specs.Samples.{is_high}

parted : (word k : ℕ) → word ≡ word / 2 ^ k * 2 ^ k + word % 2 ^ k
parted word k = omega arith

pub low_bit : (word j : ℕ) → j < 64 → bit_at (word % 2 ^ 64) j ≡ bit_at word j
low_bit word j below = sym (ap (λ (n : ℕ). bit_at n j) (parted word 64) ∙ bit_at_cat_low (word / 2 ^ 64) 64 (word % 2 ^ 64) j below)

pub high_bit : (word j : ℕ) → 64 ≤ j → bit_at (word / 2 ^ 64) (j - 64) ≡ bit_at word j
high_bit word j above = sym (ap (λ (n : ℕ). bit_at n j) (parted word 64) ∙ bit_at_cat_high (word / 2 ^ 64) 64 (word % 2 ^ 64) j (omega arith) above)

-- above a half has none
pub no_bit : (word j : ℕ) → 64 ≤ j → bit_at (word % 2 ^ 64) j ≡ 0
no_bit word j above = sym (high_bit (word % 2 ^ 64) j above) ∙ (ap (λ (n : ℕ). bit_at n (j - 64)) (none word) ∙ bit_at-zero (j - 64))
  where
    none : (n : ℕ) → n % 2 ^ 64 / 2 ^ 64 ≡ 0
    none n = omega arith

-- as a test of one bit has it
tested : (half j : ℕ) → nat_eq (bit_and (half / 2 ^ j) 1) 1 ≡ nat_eq (bit_at half j) 1
tested half j = ap (λ (b : ℕ). nat_eq b 1) (shr_and_one half j)

pub low_high : (word j half : ℕ) → j < 64 → half ≡ word % 2 ^ 64 → nat_eq (bit_and (half / 2 ^ j) 1) 1 ≡ is_high word j
low_high word j half below is = tested half j ∙ ap (λ (b : ℕ). nat_eq b 1) (ap (λ (n : ℕ). bit_at n j) is ∙ low_bit word j below)

pub high_high : (word j half : ℕ) → 64 ≤ j → half ≡ word / 2 ^ 64 → nat_eq (bit_and (half / 2 ^ (j - 64)) 1) 1 ≡ is_high word j
high_high word j half above is = tested half (j - 64) ∙ ap (λ (b : ℕ). nat_eq b 1) (ap (λ (n : ℕ). bit_at n (j - 64)) is ∙ high_bit word j above)
