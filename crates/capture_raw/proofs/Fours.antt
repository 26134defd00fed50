-- Four units of two bytes as one word, compared with four equal ones.
use Rattle.std.proofs.Common.{◌≡◌, ℕ, zero, suc, ◌+◌, ◌-◌, ◌*◌, ◌/◌, ◌%◌, ◌^◌, ◌≤◌, ◌<◌, ◌⊎◌, inl, inr, List, length, take, drop, get_or, sym, ◌∙◌, ap, subst, arith, min, bit_and, bit_xor, w64}
use Rattle.std.specs.Int.{bit_at, trailing_zeros}
use Rattle.std.proofs.lemmas.Nat.{and_le_r, and_mask}
use Rattle.std.proofs.lemmas.Nat.Bits.{bit_at_and, bit_at_xor, bit_at-lt, bit_at-trailing_zeros, bit_at-zero, bit_at_cat_low, bit_at_cat_high}
use Rattle.capture_raw.specs.Raw.{number}
use Rattle.capture_raw.specs.Masks.{Agree, SameSamples}
use Rattle.capture_raw.specs.Pairs.{FourOf}
use Rattle.capture_raw.proofs.Agreeing.{same_next, same_none}
use Rattle.capture_raw.proofs.Parts.{part_bit, part_above, unit_bit}

-- so many equal units
abbrev times : ℕ → ℕ → ℕ
times unit zero = 0
times unit (suc count) = times unit count * 2 ^ 16 + unit

bits_of : (unit : ℕ) → unit < 2 ^ 16 → (count k i : ℕ) → k < count → i < 16 → bit_at (times unit count) (16 * k + i) ≡ bit_at unit i
bits_of unit small zero k i within low = absurd (omega (arith, within))
bits_of unit small (suc count) zero i within low =
    let at : 16 * 0 + i ≡ i = omega arith in
    ap (λ (j : ℕ). bit_at (times unit count * 2 ^ 16 + unit) j) at ∙ bit_at_cat_low (times unit count) 16 unit i low
bits_of unit small (suc count) (suc k) i within low =
    let at : 16 * suc k + i - 16 ≡ 16 * k + i = omega arith in
    bit_at_cat_high (times unit count) 16 unit (16 * suc k + i) small (omega arith) ∙ ap (λ (j : ℕ). bit_at (times unit count) j) at
    ∙ bits_of unit small count k i (omega (arith, within)) low

pub four_times : (unit : ℕ) → unit < 2 ^ 16 → FourOf (unit * 281479271743489) unit
four_times unit small k i within low =
    let is : unit * 281479271743489 ≡ times unit 4 = omega arith in
    ap (λ (n : ℕ). bit_at n (16 * k + i)) is ∙ bits_of unit small 4 k i within low

low_bits : (word width i : ℕ) → i < width → bit_at (word % 2 ^ width) i ≡ bit_at word i
low_bits word width i below =
    let parted : word ≡ word / 2 ^ width * 2 ^ width + word % 2 ^ width = omega arith in
    sym (ap (λ (n : ℕ). bit_at n i) parted ∙ bit_at_cat_low (word / 2 ^ width) width (word % 2 ^ width) i below)

module _ (bytes : List ℕ) (small : (k : ℕ) → get_or bytes k 0 < 256) where
  -- the first unit is the lowest bits of the first word
  first_of_word : (word firsts unit : ℕ) → word ≡ number (take 8 (drop 0 bytes)) → unit ≡ word % 2 ^ 16 → FourOf firsts unit → FourOf firsts (number (take 2 bytes))
  first_of_word word firsts unit is_word is_unit four k i within low =
      four k i within low ∙ ap (λ (n : ℕ). bit_at n i) is_unit ∙ low_bits word 16 i low ∙ ap (λ (n : ℕ). bit_at n i) is_word ∙ sym (unit_bit bytes small 2 8 0 i (omega arith) low)

  module _ (mask masks firsts : ℕ) (masks_are : FourOf masks (mask % 2 ^ 16)) (firsts_are : FourOf firsts (number (take 2 bytes))) where
    -- the bits in which four units differ from four times the first, of those of the masks
    abbrev Differing : ℕ → ℕ → Type 0
    Differing at different = different ≡ bit_and (bit_xor (number (take 8 (drop at bytes))) firsts) masks

    bit_of : (at different j : ℕ) → Differing at different → bit_at different j ≡ min ((bit_at (number (take 8 (drop at bytes))) j + bit_at firsts j) % 2) (bit_at masks j)
    bit_of at different j is =
        ap (λ (n : ℕ). bit_at n j) is ∙ bit_at_and (bit_xor (number (take 8 (drop at bytes))) firsts) masks j
        ∙ ap (λ (n : ℕ). min n (bit_at masks j)) (bit_at_xor (number (take 8 (drop at bytes))) firsts j)

    -- a unit none of whose bits differs
    pair_agrees : (at k different : ℕ) → k < 4 → Differing at different → ((i : ℕ) → i < 16 → bit_at different (16 * k + i) ≡ 0)
        → Agree mask (number (take 2 (drop (at + 2 * k) bytes))) (number (take 2 bytes))
    pair_agrees at k different within is none i set = by_place (search arith) where
      by_place : (i < 16) ⊎ (16 ≤ i) → bit_at (number (take 2 (drop (at + 2 * k) bytes))) i ≡ bit_at (number (take 2 bytes)) i
      by_place (inr high) = part_above bytes small (at + 2 * k) 2 i high ∙ sym (part_above bytes small 0 2 i high)
      by_place (inl low) =
          let place : at + (16 * k + i) / 8 ≡ at + 2 * k + i / 8 = omega arith in
          let bit : (16 * k + i) % 8 ≡ i % 8 = omega arith in
          let unit : bit_at (number (take 2 (drop (at + 2 * k) bytes))) i ≡ bit_at (number (take 8 (drop at bytes))) (16 * k + i) =
          part_bit bytes small (at + 2 * k) 2 i low ∙ sym (part_bit bytes small at 8 (16 * k + i) (omega (arith, within, low)) ∙ (λ j. bit_at (get_or bytes (place j) 0) (bit j))) in
          let of_mask : bit_at masks (16 * k + i) ≡ 1 = masks_are k i within low ∙ low_bits mask 16 i low ∙ set in
          omega (arith, unit, of_mask, firsts_are k i within low, bit_of at different (16 * k + i) is, none i low, bit_at-lt (number (take 8 (drop at bytes))) (16 * k + i), bit_at-lt firsts (16 * k + i))

    -- so many units more
    pub pairs_more : (count most different : ℕ) → most ≤ 4 → (count + 4) * 2 ≤ length bytes → Differing (count * 2) different → ((j : ℕ) → j < 16 * most → bit_at different j ≡ 0)
        → SameSamples 2 mask bytes count → SameSamples 2 mask bytes (count + most)
    pairs_more count zero different few whole is none so_far =
        let same : count ≡ count + 0 = omega arith in subst (λ (n : ℕ). SameSamples 2 mask bytes n) same so_far
    pairs_more count (suc most) different few whole is none so_far =
        let next : count + most + 1 ≡ count + suc most = omega arith in
        let at : count * 2 + 2 * most ≡ (count + most) * 2 = omega arith in
        let before = pairs_more count most different (omega (arith, few)) whole is (λ j below. none j (omega (arith, below))) so_far in
        let agree = subst (λ (n : ℕ). Agree mask (number (take 2 (drop n bytes))) (number (take 2 bytes))) at
        (pair_agrees (count * 2) most different (omega (arith, few)) is (λ i low. none (16 * most + i) (omega (arith, low)))) in
        subst (λ (n : ℕ). SameSamples 2 mask bytes n) next (same_next 2 (omega arith) mask bytes (count + most) (omega (arith, few, whole)) agree before)

    -- where no bit differs, all four
    pub four_more : (count different : ℕ) → (count + 4) * 2 ≤ length bytes → Differing (count * 2) different → different ≡ 0 → SameSamples 2 mask bytes count → SameSamples 2 mask bytes (count + 4)
    four_more count different whole is none so_far =
        pairs_more count 4 different (omega arith) whole is (λ j below. ap (λ (n : ℕ). bit_at n j) none ∙ bit_at-zero j) so_far

    -- and else those before the first bit that does
    pub front_more : (count different : ℕ) → (count + 4) * 2 ≤ length bytes → Differing (count * 2) different → 0 < different → masks < 2 ^ 64 → SameSamples 2 mask bytes count
        → (trailing_zeros w64 different / 16 < 4) × SameSamples 2 mask bytes (count + trailing_zeros w64 different / 16)
    front_more count different whole is some fits so_far =
        let least : different < 2 ^ 64 = omega (arith, is, and_le_r (bit_xor (number (take 8 (drop (count * 2) bytes))) firsts) masks, fits) in
        let lowest = bit_at-trailing_zeros w64 different some least in
        let below : trailing_zeros w64 different < 64 = lowest.0 in (
          omega (arith, below),
          pairs_more count (trailing_zeros w64 different / 16) different (omega (arith, below)) whole is (λ j place. lowest.2 j (omega (arith, place))) so_far,
        )

    -- the first unit is one of them
    first_alike : (different : ℕ) → Differing 0 different → 0 < different → masks < 2 ^ 64 → 1 ≤ trailing_zeros w64 different / 16
    first_alike different is some fits = by_place (search arith) where
      least : different < 2 ^ 64
      least = omega (arith, is, and_le_r (bit_xor (number (take 8 (drop 0 bytes))) firsts) masks, fits)

      lowest : bit_at different (trailing_zeros w64 different) ≡ 1
      lowest = (bit_at-trailing_zeros w64 different some least).1

      by_place : (trailing_zeros w64 different < 16) ⊎ (16 ≤ trailing_zeros w64 different) → 1 ≤ trailing_zeros w64 different / 16
      by_place (inr far) = omega (arith, far)
      by_place (inl near) =
          let j = trailing_zeros w64 different in
          let place : 16 * 0 + j ≡ j = omega arith in
          let first : bit_at firsts j ≡ bit_at (number (take 2 bytes)) j = ap (λ (n : ℕ). bit_at firsts n) (sym place) ∙ firsts_are 0 j (omega arith) near in
          let unit : bit_at (number (take 2 bytes)) j ≡ bit_at (number (take 8 (drop 0 bytes))) j = unit_bit bytes small 2 8 0 j (omega arith) near in
          absurd (omega (arith, first, unit, bit_of 0 different j is, lowest))

-- the first word, as it was read
module _ (bytes : List ℕ) (small : (k : ℕ) → get_or bytes k 0 < 256) (whole : 8 ≤ length bytes) (mask word masks firsts : ℕ) (is : word ≡ number (take 8 bytes))
    (masks_of : FourOf masks (bit_and mask 65535)) (firsts_of : FourOf firsts (bit_and word 65535)) where
  pub firsts_are : FourOf firsts (number (take 2 bytes))
  firsts_are = first_of_word bytes small word firsts (bit_and word 65535) is (and_mask word 16) firsts_of

  masks_are : FourOf masks (mask % 2 ^ 16)
  masks_are = subst (λ (m : ℕ). FourOf masks m) (and_mask mask 16) masks_of

  differing : bit_and (bit_xor word firsts) masks ≡ bit_and (bit_xor (number (take 8 bytes)) firsts) masks
  differing i = bit_and (bit_xor (is i) firsts) masks

  pub first_four : bit_and (bit_xor word firsts) masks ≡ 0 → SameSamples 2 mask bytes 4
  first_four none = four_more bytes small mask masks firsts masks_are firsts_are 0 (bit_and (bit_xor word firsts) masks) (omega (arith, whole)) differing none (same_none 2 (omega arith) mask bytes)

  module _ (some : 0 < bit_and (bit_xor word firsts) masks) (fits : masks < 2 ^ 64) where
    pub first_some : 1 ≤ trailing_zeros w64 (bit_and (bit_xor word firsts) masks) / 16
    first_some = first_alike bytes small mask masks firsts masks_are firsts_are (bit_and (bit_xor word firsts) masks) differing some fits

    pub first_front : SameSamples 2 mask bytes (trailing_zeros w64 (bit_and (bit_xor word firsts) masks) / 16)
    first_front =
        let count = trailing_zeros w64 (bit_and (bit_xor word firsts) masks) / 16 in
        let same : 0 + count ≡ count = omega arith in
        subst (λ (n : ℕ). SameSamples 2 mask bytes n) same
        (front_more bytes small mask masks firsts masks_are firsts_are 0 (bit_and (bit_xor word firsts) masks) (omega (arith, whole)) differing some fits (same_none 2 (omega arith) mask bytes)).1
