-- Bytes that two texts have in common, by their words.
use Rattle.std.proofs.Common.{◌≡◌, ℕ, zero, suc, ◌+◌, ◌-◌, ◌*◌, ◌/◌, ◌%◌, ◌^◌, ◌≤◌, ◌<◌, ◌⊎◌, inl, inr, List, take, drop, length, length-drop, length-take-le, sym, ◌∙◌, ap, refl, arith, get_or, bit_xor, w64}
use Rattle.std.specs.Int.{bit_at, from_le_bytes, to_le_bytes, trailing_zeros}
use Rattle.std.proofs.lemmas.Nat.{le_bytes_8}
use Rattle.std.proofs.lemmas.Nat.Bits.{bit_at_cat_high, bit_at_cat_low, bit_at_xor, bit_at-lt, bit_at-zero, bit_at-trailing_zeros, same_from_bits_below}
use Rattle.std.proofs.lemmas.List.{get_or-drop, get_or-take, get_or_past}
use Rattle.std.proofs.Math.Nat.{div-div-eq-div-mul, pow-succ'}

-- a bit of a byte of a number is one of the number
byte_bit : (n k i : ℕ) → i < 8 → bit_at (n / 256 ^ k % 256) i ≡ bit_at n (8 * k + i)
byte_bit n zero i low =
    let one : n / 256 ^ 0 ≡ n = omega arith in
    let apart : n ≡ n / 256 * 2 ^ 8 + n % 256 = omega arith in
    let at : i ≡ 8 * 0 + i = omega arith in
    ap (λ (m : ℕ). bit_at (m % 256) i) one ∙ sym (bit_at_cat_low (n / 256) 8 (n % 256) i low) ∙ (λ p. bit_at (sym apart p) (at p))
byte_bit n (suc k) i low =
    let apart : n ≡ n / 256 * 2 ^ 8 + n % 256 = omega arith in
    let at : 8 * k + i ≡ 8 * suc k + i - 8 = omega arith in
    ap (λ (m : ℕ). bit_at (m % 256) i) (ap (λ (p : ℕ). n / p) (pow-succ' 256 k) ∙ sym (div-div-eq-div-mul n 256 (256 ^ k)))
    ∙ byte_bit (n / 256) k i low ∙ ap (λ (j : ℕ). bit_at (n / 256) j) at
    ∙ sym (bit_at_cat_high (n / 256) 8 (n % 256) (8 * suc k + i) (omega arith) (omega arith)) ∙ ap (λ (m : ℕ). bit_at m (8 * suc k + i)) (sym apart)

byte_of : (n k : ℕ) → k < 8 → get_or (to_le_bytes w64 n) k 0 ≡ n / 256 ^ k % 256
byte_of n zero below = omega arith
byte_of n (suc zero) below = refl
byte_of n (suc (suc zero)) below = refl
byte_of n (suc (suc (suc zero))) below = refl
byte_of n (suc (suc (suc (suc zero)))) below = refl
byte_of n (suc (suc (suc (suc (suc zero))))) below = refl
byte_of n (suc (suc (suc (suc (suc (suc zero)))))) below = refl
byte_of n (suc (suc (suc (suc (suc (suc (suc zero))))))) below = refl
byte_of n (suc (suc (suc (suc (suc (suc (suc (suc k)))))))) below = absurd (omega (arith, below))

-- the bytes before the first bit in which the words of eight differ
eight_same : (a b : List ℕ) → length a ≡ 8 → length b ≡ 8 → ((k : ℕ) → get_or a k 0 < 256) → ((k : ℕ) → get_or b k 0 < 256) → (most : ℕ) → most ≤ 8
    → ((j : ℕ) → j < 8 * most → bit_at (bit_xor (from_le_bytes w64 a) (from_le_bytes w64 b)) j ≡ 0) → (k : ℕ) → k < most → get_or a k 0 ≡ get_or b k 0
eight_same a b whole_a whole_b small_a small_b most few none k below =
    is a whole_a small_a ∙ same_from_bits_below 8 (m / 256 ^ k % 256) (n / 256 ^ k % 256) (omega arith) (omega arith) (λ i low. byte_bit m k i low ∙ bit i low ∙ sym (byte_bit n k i low)) ∙ sym (is b whole_b small_b)
  where
    m : ℕ
    m = from_le_bytes w64 a

    n : ℕ
    n = from_le_bytes w64 b

    is : (bytes : List ℕ) → length bytes ≡ 8 → ((k : ℕ) → get_or bytes k 0 < 256) → get_or bytes k 0 ≡ from_le_bytes w64 bytes / 256 ^ k % 256
    is bytes whole small = ap (λ (l : List ℕ). get_or l k 0) (sym (le_bytes_8 bytes (from_le_bytes w64 bytes) whole small refl)) ∙ byte_of (from_le_bytes w64 bytes) k (omega (arith, below, few))

    bit : (i : ℕ) → i < 8 → bit_at m (8 * k + i) ≡ bit_at n (8 * k + i)
    bit i low =
        let same : (bit_at m (8 * k + i) + bit_at n (8 * k + i)) % 2 ≡ 0 = sym (bit_at_xor m n (8 * k + i)) ∙ none (8 * k + i) (omega (arith, low, below)) in
        omega (arith, same, bit_at-lt m (8 * k + i), bit_at-lt n (8 * k + i))

-- so many bytes at the front are the same
abbrev pub SameTo : List ℕ → List ℕ → ℕ → Type 0
SameTo one other count = (k : ℕ) → k < count → get_or one k 0 ≡ get_or other k 0

-- the word behind so many bytes
abbrev pub word : List ℕ → ℕ → ℕ
word bytes at = from_le_bytes w64 (take 8 (drop at bytes))

module _ (one other : List ℕ) (done : ℕ) (within : done + 8 ≤ length other) (shorter : length other ≤ length one) (small_one : (k : ℕ) → get_or one k 0 < 256) (small_other : (k : ℕ) → get_or other k 0 < 256) (so_far : SameTo one other done) where
  at : (bytes : List ℕ) (k : ℕ) → k < 8 → get_or (take 8 (drop done bytes)) k 0 ≡ get_or bytes (done + k) 0
  at bytes k below = get_or-take 8 (drop done bytes) k 0 below ∙ get_or-drop done bytes k 0

  whole : (bytes : List ℕ) → done + 8 ≤ length bytes → length (take 8 (drop done bytes)) ≡ 8
  whole bytes long = length-take-le 8 (drop done bytes) (omega (arith, long, length-drop done bytes))

  small : (bytes : List ℕ) → done + 8 ≤ length bytes → ((k : ℕ) → get_or bytes k 0 < 256) → (k : ℕ) → get_or (take 8 (drop done bytes)) k 0 < 256
  small bytes long each k = by_place (search arith) where
    by_place : (k < 8) ⊎ (8 ≤ k) → get_or (take 8 (drop done bytes)) k 0 < 256
    by_place (inl below) = omega (arith, at bytes k below, each (done + k))
    by_place (inr past) = omega (arith, get_or_past (take 8 (drop done bytes)) k 0 (omega (arith, past, whole bytes long)))

  same_on : (most : ℕ) → most ≤ 8 → ((j : ℕ) → j < 8 * most → bit_at (bit_xor (word one done) (word other done)) j ≡ 0) → SameTo one other (done + most)
  same_on most few none k below = by_place (search arith) where
    long : done + 8 ≤ length one
    long = omega (arith, within, shorter)

    by_place : (k < done) ⊎ (done ≤ k) → get_or one k 0 ≡ get_or other k 0
    by_place (inl before) = so_far k before
    by_place (inr behind) =
        let on : k - done < most = omega (arith, below, behind) in
        let place : done + (k - done) ≡ k = omega (arith, behind) in
        let next = eight_same (take 8 (drop done one)) (take 8 (drop done other)) (whole one long) (whole other within) (small one long small_one) (small other within small_other) most few none (k - done) on in
        ap (λ (n : ℕ). get_or one n 0) (sym place) ∙ sym (at one (k - done) (omega (arith, on, few))) ∙ next ∙ at other (k - done) (omega (arith, on, few)) ∙ ap (λ (n : ℕ). get_or other n 0) place

  -- the word is the same
  pub same_word : (differing : ℕ) → differing ≡ bit_xor (word one done) (word other done) → differing ≡ 0 → SameTo one other (done + 8)
  same_word differing is none = same_on 8 (omega arith) (λ j below. ap (λ (n : ℕ). bit_at n j) (sym is ∙ none) ∙ bit_at-zero j)

  -- or those of its bytes before the first bit that differs
  pub same_front : (differing : ℕ) → differing ≡ bit_xor (word one done) (word other done) → 0 < differing → differing < 2 ^ 64 → (trailing_zeros w64 differing / 8 < 8) × SameTo one other (done + trailing_zeros w64 differing / 8)
  same_front differing is some fits =
      let lowest = bit_at-trailing_zeros w64 differing some fits in
      let below : trailing_zeros w64 differing < 64 = lowest.0 in
      (omega (arith, below), same_on (trailing_zeros w64 differing / 8) (omega (arith, below)) (λ j less. ap (λ (n : ℕ). bit_at n j) (sym is) ∙ lowest.2 j (omega (arith, less))))
