-- What pins pick, by parts of the pins and by parts of the number.
use Rattle.std.proofs.Common.{◌≡◌, ℕ, zero, suc, ◌+◌, ◌-◌, ◌*◌, ◌/◌, ◌%◌, ◌^◌, ◌≤◌, ◌<◌, ◌⊎◌, inl, inr, List, [], ◌∷◌, length, take, drop, get_or, sym, ◌∙◌, ap, arith, min, bit_and}
use Rattle.std.specs.Int.{bit_at}
use Rattle.std.proofs.lemmas.Nat.Bits.{bit_at-zero, bit_at_above, bit_at_cat_low, bit_at_cat_high, bit_at_and, bit_at_ones, bit_at_ones_above, bit_at-lt, same_from_bits, shr_and_one}
use Rattle.la_base.specs.declared.samples.TheConstants.{HALF_BITS, MOST_PINS}
use Rattle.la_base.proofs.Halves.{low_bit, high_bit}
use Rattle.std.proofs.Math.Nat.{pow-succ', pow-le-pow_right, div-div-eq-div-mul}
use Rattle.std.proofs.lemmas.Nat.{pow-add}
use Rattle.capture_raw.specs.Raw.{number, picked, word_of}
use Rattle.capture_raw.proofs.Agreeing.{picked_bits}
use Rattle.capture_raw.proofs.Levels.{picked_small, picked_bit, picked_above}
use Rattle.capture_raw.proofs.Parts.{unit_bit}

double : (p b : ℕ) → 2 * p * b ≡ 2 * (p * b)
double p b = grind arith

-- the first pins, and the others
pub picked_split : (count : ℕ) (pins : List ℕ) (n : ℕ) → count ≤ length pins → picked pins n ≡ picked (take count pins) n + 2 ^ count * picked (drop count pins) n
picked_split zero pins n within = omega arith
picked_split (suc count) [] n within = absurd (omega arith)
picked_split (suc count) (pin ∷ pins) n within =
    let twice = ap (λ (p : ℕ). p * picked (drop count pins) n) (pow-succ' 2 count) ∙ double (2 ^ count) (picked (drop count pins) n) in
    omega (arith, twice, picked_split count pins n (omega (arith, within)))

-- a bit of a number as a half of it has it
pub low_shifted : (n place half : ℕ) → place < HALF_BITS → half ≡ n % 2 ^ HALF_BITS → bit_and (half / 2 ^ (place % HALF_BITS)) 1 ≡ bit_at n place
low_shifted n place half below is =
    let at : place % HALF_BITS ≡ place = omega (arith, below) in shr_and_one half (place % HALF_BITS) ∙ (λ i. bit_at (is i) (at i)) ∙ low_bit n place below

pub high_shifted : (n place half : ℕ) → HALF_BITS ≤ place → place < MOST_PINS → half ≡ n / 2 ^ HALF_BITS → bit_and (half / 2 ^ (place % HALF_BITS)) 1 ≡ bit_at n place
high_shifted n place half above below is =
    let at : place % HALF_BITS ≡ place - HALF_BITS = omega (arith, above, below) in shr_and_one half (place % HALF_BITS) ∙ (λ i. bit_at (is i) (at i)) ∙ high_bit n place above

-- a byte, and what stands behind it
bit_of_sum : (a b i : ℕ) → a < 256 → bit_at (a + 256 * b) i ≡ bit_at a i + bit_at (256 * b) i
bit_of_sum a b i small = by_place (search arith) where
  whole : a + 256 * b ≡ b * 2 ^ 8 + a
  whole = omega arith

  behind : 256 * b ≡ b * 2 ^ 8 + 0
  behind = omega arith

  by_place : (i < 8) ⊎ (8 ≤ i) → bit_at (a + 256 * b) i ≡ bit_at a i + bit_at (256 * b) i
  by_place (inl low) =
      omega (arith, ap (λ (n : ℕ). bit_at n i) whole ∙ bit_at_cat_low b 8 a i low, ap (λ (n : ℕ). bit_at n i) behind ∙ bit_at_cat_low b 8 0 i low ∙ bit_at-zero i)
  by_place (inr high) =
      omega (arith, ap (λ (n : ℕ). bit_at n i) whole ∙ bit_at_cat_high b 8 a i small high, ap (λ (n : ℕ). bit_at n i) behind ∙ bit_at_cat_high b 8 0 i (omega arith) high, bit_at_above a 8 i small high)

picked_sum : (pins : List ℕ) (a b : ℕ) → a < 256 → picked pins (a + 256 * b) ≡ picked pins a + picked pins (256 * b)
picked_sum [] a b small = omega arith
picked_sum (pin ∷ pins) a b small = omega (arith, bit_of_sum a b pin small, picked_sum pins a b small)

pair_number : (bytes : List ℕ) → 2 ≤ length bytes → number (take 2 bytes) ≡ get_or bytes 0 0 + 256 * get_or bytes 1 0
pair_number [] whole = absurd (omega arith)
pair_number (a ∷ []) whole = absurd (omega arith)
pair_number (a ∷ b ∷ bytes) whole = omega arith

-- the sample of two bytes, as tables have it, is their sum, and fits
pub pair_sample : (pins bytes : List ℕ) (first second most : ℕ) → 2 ≤ length bytes → get_or bytes 0 0 < 256 → length pins ≤ most
    → first ≡ picked pins (1 * get_or bytes 0 0) → second ≡ picked pins (256 * get_or bytes 1 0) → (first + second ≡ word_of pins (take 2 bytes)) × (first + second < 2 ^ most)
pair_sample pins bytes first second most whole small few is_first is_second =
    let a = get_or bytes 0 0 in
    let b = get_or bytes 1 0 in
    let once : 1 * a ≡ a = omega arith in
    let sum : first + second ≡ picked pins (number (take 2 bytes)) =
    (λ i. (is_first ∙ ap (λ (n : ℕ). picked pins n) once) i + is_second i) ∙ sym (picked_sum pins a b small) ∙ ap (λ (n : ℕ). picked pins n) (sym (pair_number bytes whole)) in
    let larger : 2 ^ length pins ≤ 2 ^ most = pow-le-pow_right {n = 2} (omega arith) few in
    (sum, omega (arith, sum, picked_small pins (number (take 2 bytes)), larger))

-- what stands behind a unit has no pin
pub picked_front : (bytes : List ℕ) → ((k : ℕ) → get_or bytes k 0 < 256) → (pins : List ℕ) (unit n number_n : ℕ) → unit ≤ n → ((k : ℕ) → k < length pins → get_or pins k 0 < 8 * unit)
    → number_n ≡ number (take n bytes) → picked pins number_n ≡ word_of pins (take unit bytes)
picked_front bytes small pins unit n number_n shorter within is =
    ap (λ (m : ℕ). picked pins m) is
    ∙ picked_bits (number (take n bytes)) (number (take unit bytes)) pins (λ k below. sym (unit_bit bytes small unit n 0 (get_or pins k 0) shorter (within k below)))

-- a bit behind a shift
shifted_bit : (n first i : ℕ) → bit_at (n / 2 ^ first) i ≡ bit_at n (first + i)
shifted_bit n first i = ap (λ (m : ℕ). m % 2) (div-div-eq-div-mul n (2 ^ first) (2 ^ i)) ∙ ap (λ (k : ℕ). n / k % 2) (sym (pow-add 2 first i))

-- pins that are neighbours are picked by a shift
pub neighbours_pick : (pins : List ℕ) (first n ones : ℕ) → ones + 1 ≡ 2 ^ length pins → ((k : ℕ) → k < length pins → get_or pins k 0 ≡ first + k) → bit_and (n / 2 ^ first) ones ≡ picked pins n
neighbours_pick pins first n ones is order = same_from_bits (bit_and (n / 2 ^ first) ones) (picked pins n) bits where
  all_ones : ones ≡ 2 ^ length pins - 1
  all_ones = omega (arith, is)

  bit : (i : ℕ) → bit_at (bit_and (n / 2 ^ first) ones) i ≡ min (bit_at n (first + i)) (bit_at (2 ^ length pins - 1) i)
  bit i = bit_at_and (n / 2 ^ first) ones i ∙ (λ j. min (shifted_bit n first i j) (bit_at (all_ones j) i))

  bits : (i : ℕ) → bit_at (bit_and (n / 2 ^ first) ones) i ≡ bit_at (picked pins n) i
  bits i = by_place (search arith) where
    by_place : (i < length pins) ⊎ (length pins ≤ i) → bit_at (bit_and (n / 2 ^ first) ones) i ≡ bit_at (picked pins n) i
    by_place (inl below) =
        let pin : bit_at n (get_or pins i 0) ≡ bit_at n (first + i) = ap (λ (k : ℕ). bit_at n k) (order i below) in
        omega (arith, bit i, bit_at_ones (length pins) i below, picked_bit pins n i below, pin, bit_at-lt n (first + i))
    by_place (inr above) = omega (arith, bit i, bit_at_ones_above (length pins) i above, picked_above pins n i above)

-- a bit more of ones
pub ones_more : (ones place most : ℕ) → ones + 1 ≡ 2 ^ place → place < most → (2 * ones + 1 + 1 ≡ 2 ^ (place + 1)) × (2 * ones + 1 < 2 ^ most)
ones_more ones place most is below =
    let next : 2 ^ suc place ≡ 2 * 2 ^ place = pow-succ' 2 place in
    let count : suc place ≡ place + 1 = omega arith in
    let more : 2 * ones + 1 + 1 ≡ 2 ^ suc place = omega (arith, next, is) in
    let larger : 2 ^ suc place ≤ 2 ^ most = pow-le-pow_right {n = 2} (omega arith) (omega (arith, below)) in
    (more ∙ ap (λ (k : ℕ). 2 ^ k) count, omega (arith, more, larger))
