-- The number that levels make up, in parts.
use Rattle.std.proofs.Common.{◌≡◌, inl, inr, ℕ, zero, suc, ◌+◌, ◌-◌, ◌*◌, ◌/◌, ◌%◌, ◌^◌, Bool, true}
use Rattle.std.proofs.Common.{false, not, List, [], ◌∷◌, length, take, drop, get_or, map, refl, sym}
use Rattle.std.proofs.Common.{◌∙◌, ap, arith, ◌==◌}
use Rattle.std.specs.Int.RustNames.{count_ones}
use Rattle.std.specs.List.{count_by, list_any}
use Rattle.std.proofs.Math.Nat.{zero-div, div-one, div-div-eq-div-mul, pow-succ'}
use Rattle.std.proofs.lemmas.Bool.{cases_eq}
use Rattle.std.proofs.lemmas.Nat.{mod-pow-add, pow_pos}
use Rattle.std.specs.Simd.Lanes.{mask_l}
use Rattle.std.proofs.lemmas.Simd.{ones-mask_l}
use Rattle.la_base.specs.Samples.{is_high}
use Rattle.list_cuts.specs.Bits.{bit_of, low_first}
use Rattle.list_cuts.proofs.BitLaws.{bit_small}
use Rattle.list_cuts.proofs.TestLaws.{test_yes, test_no}
use Rattle.dec_uart.specs.Chain.{any_high}

-- without its lowest bit, and that bit
half : (bit : Bool) (n : ℕ) → (bit_of bit + 2 * n) / 2 ≡ n
half bit n = let small = bit_small bit in omega (arith, small)

lowest : (bit : Bool) (n : ℕ) → (bit_of bit + 2 * n) % 2 ≡ bit_of bit
lowest bit n = let small = bit_small bit in omega (arith, small)

-- the bits behind the first n
pub low_drop : (bits : List Bool) (n : ℕ) → low_first bits / 2 ^ n ≡ low_first (drop n bits)
low_drop [] zero = refl
low_drop [] (suc n) = zero-div (2 ^ suc n)
low_drop (bit ∷ bits) zero = div-one (bit_of bit + 2 * low_first bits)
low_drop (bit ∷ bits) (suc n) =
    ap (λ (d : ℕ). (bit_of bit + 2 * low_first bits) / d) (pow-succ' 2 n)
    ∙ sym (div-div-eq-div-mul (bit_of bit + 2 * low_first bits) 2 (2 ^ n))
    ∙ ap (λ (m : ℕ). m / 2 ^ n) (half bit (low_first bits))
    ∙ low_drop bits n

-- the first n bits
pub low_take : (bits : List Bool) (n : ℕ) → low_first bits % 2 ^ n ≡ low_first (take n bits)
low_take [] zero = refl
low_take [] (suc n) = let some = pow_pos (suc n) in omega (arith, some)
low_take (bit ∷ bits) zero = omega arith
low_take (bit ∷ bits) (suc n) =
    let next : suc n ≡ n + 1 = omega arith in
    let parts = mod-pow-add (bit_of bit + 2 * low_first bits) n 1 in
    let rest : (bit_of bit + 2 * low_first bits) / 2 % 2 ^ n ≡ low_first (take n bits) =
    ap (λ (m : ℕ). m % 2 ^ n) (half bit (low_first bits)) ∙ low_take bits n in
    ap (λ (k : ℕ). (bit_of bit + 2 * low_first bits) % 2 ^ k) next ∙ parts
    ∙ omega (arith, rest, lowest bit (low_first bits))

-- one bit
pub low_bit : (bits : List Bool) (i : ℕ) → is_high (low_first bits) i ≡ get_or bits i false
low_bit bits i = ap (λ (n : ℕ). n % 2 == 1) (low_drop bits i) ∙ by bits i
  where
    by : (bits : List Bool) (i : ℕ) → (low_first (drop i bits) % 2 == 1) ≡ get_or bits i false
    by [] zero = refl
    by [] (suc i) = refl
    by (true ∷ bits) zero = test_yes ((1 + 2 * low_first bits) % 2) 1 (lowest true (low_first bits))
    by (false ∷ bits) zero =
        test_no ((0 + 2 * low_first bits) % 2) 1
        (λ is. let e = lowest false (low_first bits) in absurd (omega (arith, e, is)))
    by (bit ∷ bits) (suc i) = by bits i

-- how many bits are high
pub low_ones : (bits : List Bool) → count_ones (low_first bits) ≡ count_by (λ level. level) bits
low_ones bits = ap count_ones (by bits) ∙ ones-mask_l (λ level. level) bits
  where
    by : (bits : List Bool) → low_first bits ≡ mask_l (map (λ (level : Bool). level) bits)
    by [] = refl
    by (true ∷ bits) = ap (λ (n : ℕ). 1 + 2 * n) (by bits)
    by (false ∷ bits) = ap (λ (n : ℕ). 0 + 2 * n) (by bits)

-- the number is 0 exactly where no bit is high
pub low_none : (bits : List Bool) → (low_first bits == 0) ≡ not (any_high bits)
low_none [] = refl
low_none (true ∷ bits) = test_no (1 + 2 * low_first bits) 0 (λ is. absurd (omega (arith, is)))
low_none (false ∷ bits) = elim (cases_eq (low_first bits) 0) [
  | inl none ↦ test_yes (0 + 2 * low_first bits) 0 (omega (arith, none))
      ∙ sym (test_yes (low_first bits) 0 none) ∙ low_none bits
  | inr some ↦ test_no (0 + 2 * low_first bits) 0 (λ is. some (omega (arith, is)))
      ∙ sym (test_no (low_first bits) 0 some) ∙ low_none bits
]

-- it has a 1 in each place exactly where no bit is low
pub low_all : (bits : List Bool) → (low_first bits == 2 ^ length bits - 1) ≡ not (list_any not bits)
low_all [] = refl
low_all (false ∷ bits) =
    let twice : 2 ^ suc (length bits) ≡ 2 * 2 ^ length bits = pow-succ' 2 (length bits) in
    let some = pow_pos (length bits) in
    test_no (0 + 2 * low_first bits) (2 ^ suc (length bits) - 1)
    (λ is. absurd (omega (arith, is, twice, some)))
low_all (true ∷ bits) =
    let twice : 2 ^ suc (length bits) ≡ 2 * 2 ^ length bits = pow-succ' 2 (length bits) in
    let some = pow_pos (length bits) in
    elim (cases_eq (low_first bits) (2 ^ length bits - 1)) [
      | inl full ↦ test_yes (1 + 2 * low_first bits) (2 ^ suc (length bits) - 1)
          (omega (arith, full, twice, some))
          ∙ sym (test_yes (low_first bits) (2 ^ length bits - 1) full) ∙ low_all bits
      | inr less ↦ test_no (1 + 2 * low_first bits) (2 ^ suc (length bits) - 1)
          (λ is. less (omega (arith, is, twice, some)))
          ∙ sym (test_no (low_first bits) (2 ^ length bits - 1) less) ∙ low_all bits
    ]
