-- Digits, and the numbers that they write.
use Rattle.std.proofs.Common.{◌≡◌, ℕ, zero, suc, ◌+◌, ◌*◌, ◌^◌, ◌≤◌, ◌<◌, List, [], ◌∷◌, take, length, refl, ◌∙◌, ap, arith, slice_index, Bool, true, false, cond, ◌&&◌, nat_le}
use Rattle.std.proofs.lemmas.Bool.{leb-true, false≢true}
use Rattle.std.proofs.Math.Nat.{pow-le-pow_right}
use Rattle.std.specs.Char.{is_ascii_digit}
use Rattle.std.specs.List.{prefix_len}
use Rattle.std.specs.Str.{all_ascii_digits}
use Rattle.capture_csv.specs.Csv.{word_bits}

pub power : (n most : ℕ) → n ≤ most → 10 ^ n ≤ 10 ^ most
power n most few = let some : 0 < 10 = omega arith in pow-le-pow_right some few

pub tenfold : (n : ℕ) → 10 ^ (n + 1) ≡ 10 * 10 ^ n
tenfold n =
    let next : n + 1 ≡ suc n = omega arith in
    let e : 10 ^ suc n ≡ 10 * 10 ^ n = grind arith in
    ap (λ (k : ℕ). 10 ^ k) next ∙ e

both : (a b : Bool) → (a && b) ≡ true → (a ≡ true) × (b ≡ true)
both true b e = (refl, e)
both false b e = absurd (false≢true e)

digit_within : (b : ℕ) → is_ascii_digit b ≡ true → (48 ≤ b) × (b ≤ 57)
digit_within b is = let two = both (nat_le 48 b) (nat_le b 57) is in (leb-true 48 b two.0, leb-true b 57 two.1)

-- a digit among digits
pub digit_at : (digits : List ℕ) (k : ℕ) → all_ascii_digits digits ≡ true → k < length digits → (48 ≤ slice_index digits k) × (slice_index digits k ≤ 57)
digit_at [] k all less = absurd (omega (arith, less))
digit_at (b ∷ digits) zero all less = digit_within b (both (is_ascii_digit b) (all_ascii_digits digits) all).0
digit_at (b ∷ digits) (suc k) all less = digit_at digits k (both (is_ascii_digit b) (all_ascii_digits digits) all).1 (omega (arith, less))

-- the digits at the front
pub prefix_digits : (text : List ℕ) → all_ascii_digits (take (prefix_len is_ascii_digit text) text) ≡ true
prefix_digits [] = refl
prefix_digits (b ∷ text) = by_test (is_ascii_digit b) refl (prefix_digits text) where
  by_test : (t : Bool) → is_ascii_digit b ≡ t → all_ascii_digits (take (prefix_len is_ascii_digit text) text) ≡ true → all_ascii_digits (take (cond t (1 + prefix_len is_ascii_digit text) 0) (b ∷ text)) ≡ true
  by_test true e rest = let next : 1 + prefix_len is_ascii_digit text ≡ suc (prefix_len is_ascii_digit text) = omega arith in ap (λ (n : ℕ). all_ascii_digits (take n (b ∷ text))) next ∙ (λ i. e i && rest i)
  by_test false e rest = refl

pub word_small : (n : ℕ) (levels : List Bool) → length levels ≤ n → word_bits levels < 2 ^ n
word_small zero [] few = omega arith
word_small (suc n) [] few = let h = word_small n [] (omega arith) in let e : 2 ^ suc n ≡ 2 * 2 ^ n = grind arith in omega (arith, h, e)
word_small zero (b ∷ bs) few = absurd (omega (arith, few))
word_small (suc n) (b ∷ bs) few = let h = word_small n bs (omega (arith, few)) in let e : 2 ^ suc n ≡ 2 * 2 ^ n = grind arith in by_bit b h e where
  by_bit : (b : Bool) → word_bits bs < 2 ^ n → 2 ^ suc n ≡ 2 * 2 ^ n → cond b 1 0 + 2 * word_bits bs < 2 ^ suc n
  by_bit true h e = omega (arith, h, e)
  by_bit false h e = omega (arith, h, e)
