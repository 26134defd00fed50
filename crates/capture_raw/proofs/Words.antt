-- Eight bytes as one number, compared with eight equal ones.
use Rattle.std.proofs.Common.{◌≡◌, ℕ, zero, suc, ◌+◌, ◌-◌, ◌*◌, ◌/◌, ◌%◌, ◌^◌, ◌≤◌, ◌<◌, ◌⊎◌, inl, inr, List, [], ◌∷◌, length, take, drop, get_or, replicate, sym, ◌∙◌, ap, arith, min, bit_and, bit_xor, w64, length-take-le, length-drop}
use Rattle.std.specs.Int.{bit_at, trailing_zeros}
use Rattle.std.proofs.lemmas.Nat.{and_le_r}
use Rattle.std.proofs.lemmas.Nat.Bits.{bit_at_and, bit_at_xor, bit_at-lt, bit_at-zero, bit_at-trailing_zeros, bit_at_above, bit_at_cat_low, bit_at_cat_high}
use Rattle.std.proofs.lemmas.List.{get_or-take, get_or-drop, get_or-replicate, get_or_past, length-replicate}
use Rattle.capture_raw.specs.Raw.{number}
use Rattle.capture_raw.specs.Masks.{AllAgree}
use Rattle.capture_raw.proofs.Agreeing.{all_on}

-- a bit of a number is one of a byte of it
pub bit_of_byte : (bytes : List ℕ) → ((k : ℕ) → get_or bytes k 0 < 256) → (k i : ℕ) → k < length bytes → i < 8 → bit_at (number bytes) (8 * k + i) ≡ bit_at (get_or bytes k 0) i
bit_of_byte [] small k i within low = omega (arith, within)
bit_of_byte (byte ∷ bytes) small zero i within low =
    let apart : byte + 256 * number bytes ≡ number bytes * 2 ^ 8 + byte = omega arith in
    let at : 8 * 0 + i ≡ i = omega arith in
    (λ p. bit_at (apart p) (at p)) ∙ bit_at_cat_low (number bytes) 8 byte i low
bit_of_byte (byte ∷ bytes) small (suc k) i within low =
    let apart : byte + 256 * number bytes ≡ number bytes * 2 ^ 8 + byte = omega arith in
    let at : 8 * suc k + i - 8 ≡ 8 * k + i = omega arith in
    ap (λ (n : ℕ). bit_at n (8 * suc k + i)) apart
    ∙ bit_at_cat_high (number bytes) 8 byte (8 * suc k + i) (small 0) (omega arith)
    ∙ ap (λ (j : ℕ). bit_at (number bytes) j) at
    ∙ bit_of_byte bytes (λ j. small (suc j)) k i (omega (arith, within)) low

-- the bits of eight equal bytes
pub bit_of_equal : (byte : ℕ) → byte < 256 → (k i : ℕ) → k < 8 → i < 8 → bit_at (number (replicate 8 byte)) (8 * k + i) ≡ bit_at byte i
bit_of_equal byte small k i within low =
    bit_of_byte (replicate 8 byte) all_small k i within low ∙ ap (λ (b : ℕ). bit_at b i) (all_equal k within) where
      all_equal : (k : ℕ) → k < 8 → get_or (replicate 8 byte) k 0 ≡ byte
      all_equal k within = get_or-replicate 8 k byte 0 within

      all_small : (k : ℕ) → get_or (replicate 8 byte) k 0 < 256
      all_small k = by_place (search arith) where
        by_place : (k < 8) ⊎ (8 ≤ k) → get_or (replicate 8 byte) k 0 < 256
        by_place (inl within) = omega (arith, all_equal k within, small)
        by_place (inr past) = omega (arith, get_or_past (replicate 8 byte) k 0 (omega (arith, past, length-replicate 8 byte)))

-- the bits in which eight bytes differ from eight equal ones, of those of the mask
abbrev pub differing : ℕ → ℕ → List ℕ → ℕ
differing mask first eight = bit_and (bit_xor (number eight) (number (replicate 8 first))) (number (replicate 8 mask))

-- as far as no bit differs, the bytes agree
pub eight_agree : (mask first : ℕ) (eight : List ℕ) → mask < 256 → first < 256 → length eight ≡ 8 → ((k : ℕ) → get_or eight k 0 < 256) → (most : ℕ) → most ≤ 8
    → ((j : ℕ) → j < 8 * most → bit_at (differing mask first eight) j ≡ 0) → AllAgree mask first eight most
eight_agree mask first eight small_mask small_first whole small most few none k below i is = by_place (search arith) where
  place : ℕ
  place = 8 * k + i

  by_place : (i < 8) ⊎ (8 ≤ i) → bit_at (get_or eight k 0) i ≡ bit_at first i
  by_place (inr high) = omega (arith, is, bit_at_above mask 8 i small_mask high)
  by_place (inl low) =
      let of_mask : bit_at (number (replicate 8 mask)) place ≡ 1 = bit_of_equal mask small_mask k i (omega (arith, below, few)) low ∙ is in
      let of_first : bit_at (number (replicate 8 first)) place ≡ bit_at first i = bit_of_equal first small_first k i (omega (arith, below, few)) low in
      let of_byte : bit_at (number eight) place ≡ bit_at (get_or eight k 0) i = bit_of_byte eight small k i (omega (arith, below, few, whole)) low in
      let bit : min ((bit_at (number eight) place + bit_at (number (replicate 8 first)) place) % 2) (bit_at (number (replicate 8 mask)) place) ≡ 0 =
      ap (λ (n : ℕ). min n (bit_at (number (replicate 8 mask)) place)) (sym (bit_at_xor (number eight) (number (replicate 8 first)) place))
      ∙ sym (bit_at_and (bit_xor (number eight) (number (replicate 8 first))) (number (replicate 8 mask)) place)
      ∙ none place (omega (arith, low, below)) in
      omega (arith, of_mask, of_first, of_byte, bit, bit_at-lt (get_or eight k 0) i, bit_at-lt first i)

-- and so do those behind bytes that agree
pub word_agrees : (mask first : ℕ) (bytes : List ℕ) (done : ℕ) → mask < 256 → first < 256 → done + 8 ≤ length bytes → ((k : ℕ) → get_or bytes k 0 < 256) → AllAgree mask first bytes done → (most : ℕ) → most ≤ 8
    → ((j : ℕ) → j < 8 * most → bit_at (differing mask first (take 8 (drop done bytes))) j ≡ 0) → AllAgree mask first bytes (done + most)
word_agrees mask first bytes done small_mask small_first within small so_far most few none =
    all_on mask first bytes eight done most (λ k below. same k (omega (arith, below, few))) so_far
    (eight_agree mask first eight small_mask small_first whole all_small most few none) where
      eight : List ℕ
      eight = take 8 (drop done bytes)

      whole : length eight ≡ 8
      whole = length-take-le 8 (drop done bytes) (omega (arith, within, length-drop done bytes))

      same : (k : ℕ) → k < 8 → get_or eight k 0 ≡ get_or bytes (done + k) 0
      same k below = get_or-take 8 (drop done bytes) k 0 below ∙ get_or-drop done bytes k 0

      all_small : (k : ℕ) → get_or eight k 0 < 256
      all_small k = by_place (search arith) where
        by_place : (k < 8) ⊎ (8 ≤ k) → get_or eight k 0 < 256
        by_place (inl below) = omega (arith, same k below, small (done + k))
        by_place (inr past) = omega (arith, get_or_past eight k 0 (omega (arith, past, whole)))

-- where no bit differs, all eight agree
pub whole_agrees : (mask first : ℕ) (bytes : List ℕ) (done different firsts masks : ℕ) → firsts ≡ number (replicate 8 first) → masks ≡ number (replicate 8 mask) → different ≡ bit_and (bit_xor (number (take 8 (drop done bytes))) firsts) masks
    → mask < 256 → first < 256 → done + 8 ≤ length bytes → ((k : ℕ) → get_or bytes k 0 < 256) → AllAgree mask first bytes done → different ≡ 0 → AllAgree mask first bytes (done + 8)
whole_agrees mask first bytes done different firsts masks firsts_are masks_are is small_mask small_first within small so_far none =
    let same : different ≡ differing mask first (take 8 (drop done bytes)) = is ∙ (λ i. bit_and (bit_xor (number (take 8 (drop done bytes))) (firsts_are i)) (masks_are i)) in
    word_agrees mask first bytes done small_mask small_first within small so_far 8 (omega arith) (λ j place. ap (λ (n : ℕ). bit_at n j) (sym same ∙ none) ∙ bit_at-zero j)

-- and else those before the first bit that does
pub front_agrees : (mask first : ℕ) (bytes : List ℕ) (done different firsts masks : ℕ) → firsts ≡ number (replicate 8 first) → masks ≡ number (replicate 8 mask) → different ≡ bit_and (bit_xor (number (take 8 (drop done bytes))) firsts) masks
    → mask < 256 → first < 256 → done + 8 ≤ length bytes → ((k : ℕ) → get_or bytes k 0 < 256) → AllAgree mask first bytes done → 0 < different → masks < 2 ^ 64
    → (trailing_zeros w64 different / 8 < 8) × AllAgree mask first bytes (done + trailing_zeros w64 different / 8)
front_agrees mask first bytes done different firsts masks firsts_are masks_are is small_mask small_first within small so_far some fits =
    let same : different ≡ differing mask first (take 8 (drop done bytes)) = is ∙ (λ i. bit_and (bit_xor (number (take 8 (drop done bytes))) (firsts_are i)) (masks_are i)) in
    let least : different < 2 ^ 64 = omega (arith, is, and_le_r (bit_xor (number (take 8 (drop done bytes))) firsts) masks, fits) in
    let lowest = bit_at-trailing_zeros w64 different some least in
    let below : trailing_zeros w64 different < 64 = lowest.0 in (
      omega (arith, below),
      word_agrees mask first bytes done small_mask small_first within small so_far (trailing_zeros w64 different / 8) (omega (arith, below)) (λ j place. ap (λ (n : ℕ). bit_at n j) (sym same) ∙ lowest.2 j (omega (arith, place))),
    )
