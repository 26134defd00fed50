-- The bits of a sample are the levels of channels.
use Rattle.std.proofs.Common.{◌≡◌, ℕ, zero, suc, ◌+◌, ◌-◌, ◌*◌, ◌/◌, ◌%◌, ◌^◌, ◌≤◌, ◌<◌, ◌⊎◌, inl, inr, List, [], ◌∷◌, length, length-take, take, drop, get_or, sym, ◌∙◌, ap, arith}
use Rattle.std.specs.Int.{bit_at}
use Rattle.std.proofs.lemmas.Nat.Bits.{bit_at_lowest, bit_at-suc, bit_at-zero, bit_at-lt, bit_at_above, bit_at_cat_low, bit_at_cat_high}
use Rattle.std.proofs.lemmas.List.{get_or-take, get_or-drop, get_or-map, get_or_past, drop-drop, length-map}
use Rattle.list_cuts.specs.Groups.{first_groups, groups}
use Rattle.capture_raw.specs.Raw.{number, picked, word_of, raw_samples}
use Rattle.capture_raw.specs.Laws.{Levels}
use Rattle.capture_raw.proofs.Numbers.{digit_more}

-- bit j is bit pins[j]
pub picked_bit : (pins : List ℕ) (n j : ℕ) → j < length pins → bit_at (picked pins n) j ≡ bit_at n (get_or pins j 0)
picked_bit [] n j below = absurd (omega arith)
picked_bit (pin ∷ pins) n zero below =
    let bit = bit_at n pin in
    let lowest : (bit + 2 * picked pins n) % 2 ≡ bit = omega (arith, bit_at-lt n pin) in
    bit_at_lowest (bit + 2 * picked pins n) ∙ lowest
picked_bit (pin ∷ pins) n (suc j) below =
    let bit = bit_at n pin in
    let rest : (bit + 2 * picked pins n) / 2 ≡ picked pins n = omega (arith, bit_at-lt n pin) in
    bit_at-suc (bit + 2 * picked pins n) j ∙ ap (λ (m : ℕ). bit_at m j) rest ∙ picked_bit pins n j (omega (arith, below))

pub picked_small : (pins : List ℕ) (n : ℕ) → picked pins n < 2 ^ length pins
picked_small [] n = omega arith
picked_small (pin ∷ pins) n =
    let more = digit_more 2 (picked pins n) (length pins) (bit_at n pin) (picked_small pins n) (bit_at-lt n pin) in
    let count : length pins + 1 ≡ length (pin ∷ pins) = omega arith in
    omega (arith, more, ap (λ (k : ℕ). 2 ^ k) count)

-- and there is no bit above the pins
pub picked_above : (pins : List ℕ) (n j : ℕ) → length pins ≤ j → bit_at (picked pins n) j ≡ 0
picked_above pins n j above = bit_at_above (picked pins n) (length pins) j (picked_small pins n) above

-- bit i is bit i % 8 of byte i / 8
pub number_bit : (bytes : List ℕ) (i : ℕ) → ((k : ℕ) → k < length bytes → get_or bytes k 0 < 256) → bit_at (number bytes) i ≡ bit_at (get_or bytes (i / 8) 0) (i % 8)
number_bit [] i small = bit_at-zero i ∙ sym (bit_at-zero (i % 8))
number_bit (byte ∷ bytes) i small = by_place (number_bit bytes (i - 8) (λ k below. small (suc k) (omega (arith, below)))) (search arith)
  where
    apart : byte + 256 * number bytes ≡ number bytes * 2 ^ 8 + byte
    apart = omega arith

    by_place : bit_at (number bytes) (i - 8) ≡ bit_at (get_or bytes ((i - 8) / 8) 0) ((i - 8) % 8) → (i < 8) ⊎ (8 ≤ i)
        → bit_at (byte + 256 * number bytes) i ≡ bit_at (get_or (byte ∷ bytes) (i / 8) 0) (i % 8)
    by_place next (inl low) =
        let at : 0 ≡ i / 8 = omega arith in
        let bit : i ≡ i % 8 = omega arith in
        ap (λ (m : ℕ). bit_at m i) apart ∙ bit_at_cat_low (number bytes) 8 byte i low ∙ (λ k. bit_at (get_or (byte ∷ bytes) (at k) 0) (bit k))
    by_place next (inr high) =
        let at : suc ((i - 8) / 8) ≡ i / 8 = omega arith in
        let bit : (i - 8) % 8 ≡ i % 8 = omega arith in
        ap (λ (m : ℕ). bit_at m i) apart ∙ bit_at_cat_high (number bytes) 8 byte i (small 0 (omega arith)) high ∙ next ∙ (λ k. bit_at (get_or (byte ∷ bytes) (at k) 0) (bit k))

groups_len : (n k : ℕ) (xs : List ℕ) → length (first_groups n k xs) ≡ k
groups_len n zero xs = omega arith
groups_len n (suc k) xs = omega (arith, groups_len n k (drop n xs))

-- group q begins q times n on
groups_at : (n k q : ℕ) (xs : List ℕ) → q < k → get_or (first_groups n k xs) q [] ≡ take n (drop (q * n) xs)
groups_at n zero q xs below = absurd (omega arith)
groups_at n (suc k) zero xs below = let none : 0 ≡ 0 * n = omega arith in ap (λ (m : ℕ). take n (drop m xs)) none
groups_at n (suc k) (suc q) xs below =
    let next : n + q * n ≡ suc q * n = grind arith in
    groups_at n k q (drop n xs) (omega (arith, below)) ∙ ap (λ (l : List ℕ). take n l) (drop-drop (q * n) n xs) ∙ ap (λ (m : ℕ). take n (drop m xs)) next

module _ (unit : ℕ) (pins bytes : List ℕ) where
  count_is : length (raw_samples unit pins bytes) ≡ length bytes / unit
  unfolding raw_samples groups
  count_is = length-map (first_groups unit (length bytes / unit) bytes) (word_of pins) ∙ groups_len unit (length bytes / unit) bytes

  sample_is : (q : ℕ) → q < length bytes / unit → get_or (raw_samples unit pins bytes) q 0 ≡ word_of pins (take unit (drop (q * unit) bytes))
  unfolding raw_samples groups
  sample_is q below =
      let all = first_groups unit (length bytes / unit) bytes in
      get_or-map (word_of pins) all q [] 0 (omega (arith, groups_len unit (length bytes / unit) bytes, below)) ∙ ap (λ (l : List ℕ). word_of pins l) (groups_at unit (length bytes / unit) q bytes below)

  module _ (small : (k : ℕ) → get_or bytes k 0 < 256) where
    byte_is : (q k : ℕ) → k < unit → get_or (take unit (drop (q * unit) bytes)) k 0 ≡ get_or bytes (q * unit + k) 0
    byte_is q k below = get_or-take unit (drop (q * unit) bytes) k 0 below ∙ get_or-drop (q * unit) bytes k 0

    small_unit : (q k : ℕ) → k < length (take unit (drop (q * unit) bytes)) → get_or (take unit (drop (q * unit) bytes)) k 0 < 256
    small_unit q k below =
        let within : k < unit = omega (arith, below, length-take unit (drop (q * unit) bytes)) in
        omega (arith, byte_is q k within, small (q * unit + k))

    level_is : (q j : ℕ) → q < length bytes / unit → j < length pins → get_or pins j 0 < 8 * unit
        → bit_at (get_or (raw_samples unit pins bytes) q 0) j ≡ bit_at (get_or bytes (q * unit + get_or pins j 0 / 8) 0) (get_or pins j 0 % 8)
    level_is q j below is_pin within =
        let pin = get_or pins j 0 in
        let bytes_of = take unit (drop (q * unit) bytes) in
        let place : pin / 8 < unit = omega (arith, within) in
        ap (λ (n : ℕ). bit_at n j) (sample_is q below) ∙ picked_bit pins (number bytes_of) j is_pin ∙ number_bit bytes_of pin (small_unit q)
        ∙ ap (λ (b : ℕ). bit_at b (pin % 8)) (byte_is q (pin / 8) place)

  above_is : (q j : ℕ) → length pins ≤ j → bit_at (get_or (raw_samples unit pins bytes) q 0) j ≡ 0
  above_is q j above = by_place (search arith)
    where
      by_place : (q < length bytes / unit) ⊎ (length bytes / unit ≤ q) → bit_at (get_or (raw_samples unit pins bytes) q 0) j ≡ 0
      by_place (inl there) = ap (λ (n : ℕ). bit_at n j) (sample_is q there) ∙ picked_above pins (number (take unit (drop (q * unit) bytes))) j above
      by_place (inr past) = ap (λ (n : ℕ). bit_at n j) (get_or_past (raw_samples unit pins bytes) q 0 (omega (arith, count_is, past))) ∙ bit_at-zero j

  pub levels : ((k : ℕ) → get_or bytes k 0 < 256) → Levels unit pins bytes
  levels small = record {
    count = count_is;
    level = level_is small;
    above = above_is;
  }
