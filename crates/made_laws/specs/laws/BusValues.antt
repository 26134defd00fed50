-- The bits of a byte, one behind the other from the highest, make it up again; and what a byte of an address is.
use Rattle.std.proofs.Common.{◌≡◌, inl, inr, ℕ, ◌*◌, ◌/◌, ◌%◌, ◌<◌, ◌≤◌, Bool, false, sym, ◌∙◌, ap, arith, ◌==◌, if◌then◌else◌}
use Rattle.std.specs.Prelude.{◌&&◌, not}
use Rattle.std.proofs.lemmas.Bool.{cases_eq}
use Rattle.la_base.specs.Samples.{is_high}
use Rattle.list_cuts.specs.Bits.{bit_of}
use Rattle.list_cuts.proofs.TestLaws.{test_yes, test_no}
use Rattle.dec_i2c.specs.declared.held.Role.TheVariants.{Lower, Command, Write, Read}
use Rattle.dec_i2c.specs.Bytes.{is_read, is_prefix, two_bits, role_second, first_class}
use Rattle.dec_i2c.specs.laws.Machine.{grown}

-- the lowest bit
low_bit : (x : ℕ) → bit_of (x % 2 == 1) ≡ x % 2
low_bit x = elim (cases_eq (x % 2) 1) [
  | inl one ↦ ap bit_of (test_yes (x % 2) 1 one) ∙ sym one
  | inr other ↦ let none : 0 ≡ x % 2 = omega (arith, other) in ap bit_of (test_no (x % 2) 1 other) ∙ none
]

-- a number below 256 is its upper bits with its lowest behind them
with_low : (x : ℕ) → x < 256 → grown (x / 2) (x % 2 == 1) ≡ x
with_low x small = omega (arith, small, low_bit x)

-- the number that eight bits make up, the highest first
abbrev pub byte_by : Bool → Bool → Bool → Bool → Bool → Bool → Bool → Bool → ℕ
byte_by a b c d e f g h = grown (grown (grown (grown (grown (grown (grown (grown 0 a) b) c) d) e) f) g) h

-- the same, by the number that its upper bits are
one_more : (n m : ℕ) → n ≡ m / 2 → m < 256 → grown n (m % 2 == 1) ≡ m
one_more n m half small = ap (λ (x : ℕ). grown x (m % 2 == 1)) half ∙ with_low m small

-- the bits of a number below 256 make it up again
pub byte_is : (v : ℕ) → v < 256 → byte_by (is_high v 7) (is_high v 6) (is_high v 5) (is_high v 4) (is_high v 3) (is_high v 2) (is_high v 1) (is_high v 0) ≡ v
byte_is v small =
    let b7 : grown 0 (is_high v 7) ≡ v / 128 = one_more 0 (v / 128) (omega (arith, small)) (omega (arith, small)) in
    let b6 : grown (v / 128) (is_high v 6) ≡ v / 64 = one_more (v / 128) (v / 64) (omega arith) (omega (arith, small)) in
    let b5 : grown (v / 64) (is_high v 5) ≡ v / 32 = one_more (v / 64) (v / 32) (omega arith) (omega (arith, small)) in
    let b4 : grown (v / 32) (is_high v 4) ≡ v / 16 = one_more (v / 32) (v / 16) (omega arith) (omega (arith, small)) in
    let b3 : grown (v / 16) (is_high v 3) ≡ v / 8 = one_more (v / 16) (v / 8) (omega arith) (omega (arith, small)) in
    let b2 : grown (v / 8) (is_high v 2) ≡ v / 4 = one_more (v / 8) (v / 4) (omega arith) (omega (arith, small)) in
    let b1 : grown (v / 4) (is_high v 1) ≡ v / 2 = one_more (v / 4) (v / 2) (omega arith) (omega (arith, small)) in
    let b0 : grown (v / 2) (is_high v 0) ≡ v / 1 = one_more (v / 2) (v / 1) (omega arith) (omega (arith, small)) in
    let all : v / 1 ≡ v = omega arith in
    ap (λ (n : ℕ). grown (grown (grown (grown (grown (grown (grown n (is_high v 6)) (is_high v 5)) (is_high v 4)) (is_high v 3)) (is_high v 2)) (is_high v 1)) (is_high v 0)) b7
    ∙ ap (λ (n : ℕ). grown (grown (grown (grown (grown (grown n (is_high v 5)) (is_high v 4)) (is_high v 3)) (is_high v 2)) (is_high v 1)) (is_high v 0)) b6
    ∙ ap (λ (n : ℕ). grown (grown (grown (grown (grown n (is_high v 4)) (is_high v 3)) (is_high v 2)) (is_high v 1)) (is_high v 0)) b5
    ∙ ap (λ (n : ℕ). grown (grown (grown (grown n (is_high v 3)) (is_high v 2)) (is_high v 1)) (is_high v 0)) b4
    ∙ ap (λ (n : ℕ). grown (grown (grown n (is_high v 2)) (is_high v 1)) (is_high v 0)) b3
    ∙ ap (λ (n : ℕ). grown (grown n (is_high v 1)) (is_high v 0)) b2
    ∙ ap (λ (n : ℕ). grown n (is_high v 0)) b1
    ∙ b0
    ∙ all

-- an address with R/W 0 is no general call and no prefix of ten-bit addresses, and data that is written follows
module _ (address : ℕ) (above : 8 ≤ address) (below : address ≤ 119) where
  -- R/W is 0, and the upper bits are neither those of a prefix nor all 0
  writes : is_read (2 * address) ≡ false
  writes = let even : 2 * address % 2 ≡ 0 = omega arith in ap (λ (n : ℕ). n == 1) even

  no_prefix : is_prefix (2 * address) ≡ false
  no_prefix = test_no (2 * address / 8) 30 (λ e. absurd (omega (arith, e, below)))

  no_call : (2 * address == 0) ≡ false
  no_call = test_no (2 * address) 0 (λ e. absurd (omega (arith, e, above)))

  -- so its note is that of an address to which data is written
  pub class_is : first_class (2 * address) ≡ 3
  class_is = λ i. if no_call i then 9 else (if no_prefix i then (if writes i then 13 else 10) else (if writes i then 4 else 3))

  -- and what follows it is data that is written
  pub then_write : role_second (2 * address) ≡ Write
  then_write = λ i. if no_prefix i && not (writes i) then Lower (two_bits (2 * address)) else (if no_call i then Command else (if writes i then Read else Write))

  -- the address and R/W are told as they were sent
  pub half_is : 2 * address / 2 ≡ address
  half_is = omega arith

  pub even_is : 2 * address % 2 ≡ 0
  even_is = omega arith
