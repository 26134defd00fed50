-- Parts of bytes as numbers, bit by bit, and units that agree as far as longer parts do.
use Rattle.std.proofs.Common.{◌≡◌, ℕ, ◌+◌, ◌*◌, ◌/◌, ◌%◌, ◌≤◌, ◌<◌, ◌⊎◌, inl, inr, List, length, length-take, take, drop, get_or, sym, ◌∙◌, ap, arith}
use Rattle.std.specs.Int.{bit_at}
use Rattle.std.proofs.lemmas.Nat.Bits.{bit_at-zero}
use Rattle.std.proofs.lemmas.List.{get_or-take, get_or-drop, get_or_past}
use Rattle.capture_raw.specs.Raw.{number}
use Rattle.capture_raw.specs.Masks.{Agree, SameSamples}
use Rattle.capture_raw.proofs.Levels.{number_bit}
use Rattle.capture_raw.proofs.Agreeing.{same_next}

module _ (bytes : List ℕ) (small : (k : ℕ) → get_or bytes k 0 < 256) where
  small_part : (at n k : ℕ) → k < length (take n (drop at bytes)) → get_or (take n (drop at bytes)) k 0 < 256
  small_part at n k below =
      let within : k < n = omega (arith, below, length-take n (drop at bytes)) in
      omega (arith, get_or-take n (drop at bytes) k 0 within, get_or-drop at bytes k 0, small (at + k))

  -- a bit of a part is one of a byte
  pub part_bit : (at n i : ℕ) → i < 8 * n → bit_at (number (take n (drop at bytes))) i ≡ bit_at (get_or bytes (at + i / 8) 0) (i % 8)
  part_bit at n i below =
      let within : i / 8 < n = omega (arith, below) in
      number_bit (take n (drop at bytes)) i (small_part at n)
      ∙ ap (λ (b : ℕ). bit_at b (i % 8)) (get_or-take n (drop at bytes) (i / 8) 0 within ∙ get_or-drop at bytes (i / 8) 0)

  -- and there is none above
  pub part_above : (at n i : ℕ) → 8 * n ≤ i → bit_at (number (take n (drop at bytes))) i ≡ 0
  part_above at n i above =
      let past : length (take n (drop at bytes)) ≤ i / 8 = omega (arith, above, length-take n (drop at bytes)) in
      number_bit (take n (drop at bytes)) i (small_part at n)
      ∙ ap (λ (b : ℕ). bit_at b (i % 8)) (get_or_past (take n (drop at bytes)) (i / 8) 0 past) ∙ bit_at-zero (i % 8)

  -- a unit is the lowest bits of a longer part
  pub unit_bit : (unit n at i : ℕ) → unit ≤ n → i < 8 * unit → bit_at (number (take unit (drop at bytes))) i ≡ bit_at (number (take n (drop at bytes))) i
  unit_bit unit n at i shorter low = part_bit at unit i low ∙ sym (part_bit at n i (omega (arith, low, shorter)))

  -- units agree where longer parts do
  pub unit_agrees : (mask longer unit n at : ℕ) → unit ≤ n → ((i : ℕ) → i < 8 * unit → bit_at longer i ≡ bit_at mask i)
      → Agree longer (number (take n (drop at bytes))) (number (take n (drop 0 bytes))) → Agree mask (number (take unit (drop at bytes))) (number (take unit (drop 0 bytes)))
  unit_agrees mask longer unit n at shorter same agree i is = by_place (search arith) where
    by_place : (i < 8 * unit) ⊎ (8 * unit ≤ i) → bit_at (number (take unit (drop at bytes))) i ≡ bit_at (number (take unit (drop 0 bytes))) i
    by_place (inl low) = unit_bit unit n at i shorter low ∙ agree i (same i low ∙ is) ∙ sym (unit_bit unit n 0 i shorter low)
    by_place (inr high) = part_above at unit i high ∙ sym (part_above 0 unit i high)

  -- one unit more, of which a longer part was read
  pub same_part : (mask longer unit n count : ℕ) → 0 < unit → unit ≤ n → (count + 1) * unit ≤ length bytes → ((i : ℕ) → i < 8 * unit → bit_at longer i ≡ bit_at mask i)
      → Agree longer (number (take n (drop (count * unit) bytes))) (number (take n (drop 0 bytes))) → SameSamples unit mask bytes count → SameSamples unit mask bytes (count + 1)
  same_part mask longer unit n count some shorter whole same agree so_far =
      same_next unit some mask bytes count whole (unit_agrees mask longer unit n (count * unit) shorter same agree) so_far

-- numbers that agree, under other names
pub agree_numbers : {a b : ℕ} (mask : ℕ) {n m : ℕ} → n ≡ a → m ≡ b → Agree mask n m → Agree mask a b
agree_numbers mask is_a is_b agree i is = sym (ap (λ (k : ℕ). bit_at k i) is_a) ∙ agree i is ∙ ap (λ (k : ℕ). bit_at k i) is_b
