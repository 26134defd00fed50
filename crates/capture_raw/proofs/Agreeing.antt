-- Bits that agree, and units that give the same sample.
use Rattle.std.proofs.Common.{◌≡◌, ℕ, zero, suc, ◌+◌, ◌-◌, ◌*◌, ◌/◌, ◌%◌, ◌^◌, ◌≤◌, ◌<◌, ◌⊎◌, inl, inr, List, [], ◌∷◌, ◌++◌, length, take, drop, get_or, set, replicate, map, sym, ◌∙◌, ap, arith, min, max, bit_and, bit_or, bit_xor, length-take-le, length-drop, slice_range}
use Rattle.std.specs.Int.{bit_at}
use Rattle.std.proofs.lemmas.Nat.{one_shl}
use Rattle.std.proofs.lemmas.Nat.Bits.{bit_at_and, bit_at_or, bit_at_xor, bit_at-lt, bit_at-zero, bit_at-pow_same, bit_at_above, bit_at_cat_low}
use Rattle.std.proofs.lemmas.List.{replicate_more, append-nil, drop_more, get_or-take, get_or-drop, get_or-set_same, get_or-set_other}
use Rattle.std.proofs.Math.Seq.{take-add}
use Rattle.list_cuts.specs.Groups.{groups}
use Rattle.list_cuts.proofs.GroupLaws.{groups_first, groups_short}
use Rattle.capture_raw.specs.Raw.{number, picked, word_of, raw_samples}
use Rattle.capture_raw.specs.Masks.{Covers, Agree, AllAgree, SameSamples}
use Rattle.capture_raw.proofs.Captures.{samples_after}

-- no bit of the mask differs
pub agree_from : (mask a b : ℕ) → bit_and (bit_xor a b) mask ≡ 0 → Agree mask a b
agree_from mask a b none i is =
    let bit : min ((bit_at a i + bit_at b i) % 2) (bit_at mask i) ≡ 0 = ap (λ (n : ℕ). min n (bit_at mask i)) (sym (bit_at_xor a b i)) ∙ sym (bit_at_and (bit_xor a b) mask i) ∙ ap (λ (n : ℕ). bit_at n i) none ∙ bit_at-zero i in
    omega (arith, bit, is, bit_at-lt a i, bit_at-lt b i)

-- a byte has no bits above the lowest eight
pub agree_bytes : (mask a b : ℕ) → a < 256 → b < 256 → Agree (mask % 256) a b → Agree mask a b
agree_bytes mask a b small_a small_b agree i is = by_place (search arith) where
  by_place : (i < 8) ⊎ (8 ≤ i) → bit_at a i ≡ bit_at b i
  by_place (inl low) =
      let apart : mask ≡ mask / 256 * 2 ^ 8 + mask % 256 = omega arith in
      agree i (sym (bit_at_cat_low (mask / 256) 8 (mask % 256) i low) ∙ ap (λ (n : ℕ). bit_at n i) (sym apart) ∙ is)
  by_place (inr high) = bit_at_above a 8 i small_a high ∙ sym (bit_at_above b 8 i small_b high)

-- what has the same bits at the pins gives one sample
pub picked_bits : (a b : ℕ) (pins : List ℕ) → ((k : ℕ) → k < length pins → bit_at a (get_or pins k 0) ≡ bit_at b (get_or pins k 0)) → picked pins a ≡ picked pins b
picked_bits a b [] same = omega arith
picked_bits a b (pin ∷ pins) same =
    let bit = same 0 (omega arith) in
    let rest = picked_bits a b pins (λ k below. same (suc k) (omega (arith, below))) in
    λ i. bit i + 2 * rest i

-- and so does what agrees on a mask of them
pub picked_same : (mask a b : ℕ) (pins : List ℕ) → Covers mask pins → Agree mask a b → picked pins a ≡ picked pins b
picked_same mask a b pins covers agree = picked_bits a b pins (λ k below. agree (get_or pins k 0) (covers k below))

-- the bit of one pin more
pub covers_more : (mask : ℕ) (pins : List ℕ) (count width : ℕ) → get_or pins count 0 < width → ((k : ℕ) → k < count → bit_at mask (get_or pins k 0) ≡ 1)
    → (k : ℕ) → k < count + 1 → bit_at (bit_or mask (1 * 2 ^ get_or pins count 0 % 2 ^ width)) (get_or pins k 0) ≡ 1
covers_more mask pins count width small so_far k below = by_place (search arith) where
  pin : ℕ
  pin = get_or pins count 0

  shifted : 1 * 2 ^ pin % 2 ^ width ≡ 2 ^ pin
  shifted = one_shl pin width small

  bit : (i : ℕ) → bit_at (bit_or mask (1 * 2 ^ pin % 2 ^ width)) i ≡ max (bit_at mask i) (bit_at (2 ^ pin) i)
  bit i = ap (λ (n : ℕ). bit_at (bit_or mask n) i) shifted ∙ bit_at_or mask (2 ^ pin) i

  by_place : (k < count) ⊎ (k ≡ count) → bit_at (bit_or mask (1 * 2 ^ pin % 2 ^ width)) (get_or pins k 0) ≡ 1
  by_place (inl before) = omega (arith, bit (get_or pins k 0), so_far k before, bit_at-lt (2 ^ pin) (get_or pins k 0))
  by_place (inr last) = ap (λ (n : ℕ). bit_at (bit_or mask (1 * 2 ^ pin % 2 ^ width)) (get_or pins n 0)) last ∙ omega (arith, bit pin, bit_at-pow_same pin, bit_at-lt mask pin)

-- one sample more of a table
pub table_more : (pins table : List ℕ) (worth count word : ℕ) → count < length table → word ≡ picked pins (worth * count) → ((k : ℕ) → k < count → get_or table k 0 ≡ picked pins (worth * k))
    → (k : ℕ) → k < count + 1 → get_or (set table count word) k 0 ≡ picked pins (worth * k)
table_more pins table worth count word within is so_far k below = by_place (search arith) where
  by_place : (k < count) ⊎ (k ≡ count) → get_or (set table count word) k 0 ≡ picked pins (worth * k)
  by_place (inl before) = get_or-set_other table count k word 0 (λ e. omega (arith, e, before)) ∙ so_far k before
  by_place (inr last) = ap (λ (n : ℕ). get_or (set table count word) n 0) last ∙ get_or-set_same table count word 0 within ∙ is ∙ ap (λ (n : ℕ). picked pins (worth * n)) (sym last)

-- the bits in which any byte so far differs
abbrev pub Gathers : ℕ → List ℕ → ℕ → ℕ → Type 0
Gathers first bytes different count = (k : ℕ) → k < count → (i : ℕ) → bit_at (bit_xor (get_or bytes k 0) first) i ≤ bit_at different i

pub gathers_more : (first : ℕ) (bytes : List ℕ) (different count : ℕ) → Gathers first bytes different count → Gathers first bytes (bit_or different (bit_xor (get_or bytes count 0) first)) (count + 1)
gathers_more first bytes different count so_far k below i = by_place (search arith) where
  bit : bit_at (bit_or different (bit_xor (get_or bytes count 0) first)) i ≡ max (bit_at different i) (bit_at (bit_xor (get_or bytes count 0) first) i)
  bit = bit_at_or different (bit_xor (get_or bytes count 0) first) i

  by_place : (k < count) ⊎ (k ≡ count) → bit_at (bit_xor (get_or bytes k 0) first) i ≤ bit_at (bit_or different (bit_xor (get_or bytes count 0) first)) i
  by_place (inl before) = omega (arith, bit, so_far k before i)
  by_place (inr last) = omega (arith, bit, ap (λ (n : ℕ). bit_at (bit_xor (get_or bytes n 0) first) i) last)

pub agree_gathered : (mask first : ℕ) (bytes : List ℕ) (different count : ℕ) → Gathers first bytes different count → bit_and different mask ≡ 0 → AllAgree mask first bytes count
agree_gathered mask first bytes different count gathers none k below i is =
    let bit : min (bit_at different i) (bit_at mask i) ≡ 0 = sym (bit_at_and different mask i) ∙ ap (λ (n : ℕ). bit_at n i) none ∙ bit_at-zero i in
    let same : (bit_at (get_or bytes k 0) i + bit_at first i) % 2 ≡ bit_at (bit_xor (get_or bytes k 0) first) i = sym (bit_at_xor (get_or bytes k 0) first i) in
    omega (arith, bit, is, same, gathers k below i, bit_at-lt (get_or bytes k 0) i, bit_at-lt first i)

-- one byte more
pub all_more : (mask first : ℕ) (bytes : List ℕ) (count : ℕ) → AllAgree mask first bytes count → Agree mask (get_or bytes count 0) first → AllAgree mask first bytes (count + 1)
all_more mask first bytes count so_far next k below = by_place (search arith) where
  by_place : (k < count) ⊎ (k ≡ count) → Agree mask (get_or bytes k 0) first
  by_place (inl before) = so_far k before
  by_place (inr last) = λ i is. ap (λ (n : ℕ). bit_at (get_or bytes n 0) i) last ∙ next i is

-- and those of what follows
pub all_on : (mask first : ℕ) (bytes rest : List ℕ) (count more : ℕ) → ((k : ℕ) → k < more → get_or rest k 0 ≡ get_or bytes (count + k) 0)
    → AllAgree mask first bytes count → AllAgree mask first rest more → AllAgree mask first bytes (count + more)
all_on mask first bytes rest count more is so_far next k below = by_place (search arith) where
  by_place : (k < count) ⊎ (count ≤ k) → Agree mask (get_or bytes k 0) first
  by_place (inl before) = so_far k before
  by_place (inr behind) = λ i bit.
      let on : k - count < more = omega (arith, below, behind) in
      let at : count + (k - count) ≡ k = omega (arith, behind) in
      ap (λ (n : ℕ). bit_at (get_or bytes n 0) i) (sym at) ∙ ap (λ (n : ℕ). bit_at n i) (sym (is (k - count) on)) ∙ next (k - count) on i bit

-- a block more
pub all_block : (mask first : ℕ) (bytes : List ℕ) (count block : ℕ) → count + block ≤ length bytes → AllAgree mask first bytes count
    → AllAgree mask first (slice_range bytes count (count + block)) (length (slice_range bytes count (count + block))) → AllAgree mask first bytes (count + block)
all_block mask first bytes count block within so_far next =
    let part = slice_range bytes count (count + block) in
    let size : count + block - count ≡ block = omega arith in
    let all : block ≤ length part = omega (arith, size, length-take-le (count + block - count) (drop count bytes) (omega (arith, within, length-drop count bytes))) in
    all_on mask first bytes part count block
    (λ k below. get_or-take (count + block - count) (drop count bytes) k 0 (omega (arith, below, size)) ∙ get_or-drop count bytes k 0) so_far (λ k below. next k (omega (arith, below, all)))

-- a byte agrees with itself
pub all_first : (mask : ℕ) (bytes : List ℕ) → AllAgree mask (get_or bytes 0 0) bytes 1
all_first mask bytes k below i is = let at : k ≡ 0 = omega (arith, below) in ap (λ (n : ℕ). bit_at (get_or bytes n 0) i) at

-- a byte as the number of its unit
byte_number : (bytes : List ℕ) (k : ℕ) → k < length bytes → number (take 1 (drop k bytes)) ≡ get_or bytes k 0
byte_number bytes k below = ap (λ (l : List ℕ). number (take 1 l)) (drop_more bytes k 0 below) ∙ omega arith

module _ (unit : ℕ) (some : 0 < unit) (mask : ℕ) (bytes : List ℕ) where
  module _ (pins : List ℕ) where
    one : (first : List ℕ) → length first ≡ unit → raw_samples unit pins first ≡ word_of pins first ∷ []
    unfolding raw_samples
    one first is =
        ap (λ (l : List ℕ). map (word_of pins) (groups unit l)) (sym (append-nil first)) ∙ ap (λ (l : List (List ℕ)). map (word_of pins) l)
        (groups_first unit some first [] is ∙ ap (λ (l : List (List ℕ)). first ∷ l) (groups_short unit some [] (omega arith)))

    next_word : (count word : ℕ) → (count + 1) * unit ≤ length bytes → word_of pins (take unit (drop (count * unit) bytes)) ≡ word
        → raw_samples unit pins (take (count * unit) bytes) ≡ replicate count word → raw_samples unit pins (take ((count + 1) * unit) bytes) ≡ replicate (count + 1) word
    next_word count word whole is so_far =
        let total : (count + 1) * unit ≡ count * unit + unit = grind arith in
        let front = take (count * unit) bytes in
        let next = take unit (drop (count * unit) bytes) in
        let front_len : length front ≡ count * unit = length-take-le (count * unit) bytes (omega (arith, total, whole)) in
        let next_len : length next ≡ unit = length-take-le unit (drop (count * unit) bytes) (omega (arith, total, whole, length-drop (count * unit) bytes)) in
        ap (λ (n : ℕ). raw_samples unit pins (take n bytes)) total
        ∙ ap (λ (l : List ℕ). raw_samples unit pins l) (take-add (count * unit) unit bytes)
        ∙ samples_after unit some pins front count front_len next
        ∙ (λ i. so_far i ++ (one next next_len ∙ ap (λ (w : ℕ). w ∷ []) is) i)
        ∙ replicate_more count word

  -- one unit more
  pub same_next : (count : ℕ) → (count + 1) * unit ≤ length bytes → Agree mask (number (take unit (drop (count * unit) bytes))) (number (take unit bytes))
      → SameSamples unit mask bytes count → SameSamples unit mask bytes (count + 1)
  same_next count whole agree so_far pins covers =
      next_word pins count (word_of pins (take unit bytes)) whole
      (picked_same mask (number (take unit (drop (count * unit) bytes))) (number (take unit bytes)) pins covers agree) (so_far pins covers)

  -- none
  pub same_none : SameSamples unit mask bytes 0
  unfolding raw_samples
  same_none pins covers =
      let none : 0 * unit ≡ 0 = omega arith in
      ap (λ (n : ℕ). raw_samples unit pins (take n bytes)) none ∙ ap (λ (l : List (List ℕ)). map (word_of pins) l) (groups_short unit some [] (omega arith))

-- units of one byte that agree
pub same_bytes : (mask : ℕ) (bytes : List ℕ) → ((k : ℕ) → get_or bytes k 0 < 256) → (count : ℕ) → count ≤ length bytes
    → AllAgree (mask % 256) (get_or bytes 0 0) bytes count → SameSamples 1 mask bytes count
same_bytes mask bytes small zero within agree = same_none 1 (omega arith) mask bytes
same_bytes mask bytes small (suc count) within agree =
    let step : count + 1 ≡ suc count = omega arith in
    let at : count * 1 ≡ count = omega arith in
    let total : (count + 1) * 1 ≡ suc count = omega arith in
    let first_is : number (take 1 bytes) ≡ get_or bytes 0 0 = byte_number bytes 0 (omega (arith, within)) in
    let next_is : number (take 1 (drop (count * 1) bytes)) ≡ get_or bytes count 0 = ap (λ (n : ℕ). number (take 1 (drop n bytes))) at ∙ byte_number bytes count (omega (arith, within)) in
    let next = agree_bytes mask (get_or bytes count 0) (get_or bytes 0 0) (small count) (small 0) (agree count (omega arith)) in
    let so_far = same_bytes mask bytes small count (omega (arith, within)) (λ k below. agree k (omega (arith, below))) in
    λ pins covers.
    ap (λ (n : ℕ). raw_samples 1 pins (take (n * 1) bytes)) (sym step)
    ∙ same_next 1 (omega arith) mask bytes count (omega (arith, total, within)) (λ i is. ap (λ (n : ℕ). bit_at n i) next_is ∙ next i is ∙ ap (λ (n : ℕ). bit_at n i) (sym first_is)) so_far pins covers
    ∙ ap (λ (n : ℕ). replicate n (word_of pins (take 1 bytes))) step
