-- Slots in a loop, and the numbers that their levels make.
use Rattle.std.proofs.Common.{◌≡◌, ℕ, zero, suc, ◌-◌, ◌*◌, ◌^◌, ◌≤◌, ◌<◌, List, [], ◌∷◌, ◌++◌, map, length, get_or, refl, sym, ◌∙◌, ap, arith, Bool, true, false, cond}
use Rattle.std.specs.List.{refill}
use Rattle.std.proofs.Common.{drop, slice_range}
use Rattle.std.proofs.lemmas.List.{take-append-le, take_all}
use Rattle.std.specs.declared.vec.Vec.{Vec}
use Rattle.std.specs.declared.alloc.Global.{Global}
use Rattle.la_base.specs.Naming.{same_name}
use Rattle.capture_vcd.specs.Body.{Event, Sets}
use Rattle.capture_vcd.specs.Stretches.{digits_now}
use Rattle.capture_vcd.specs.Following.{is_one, level_bit, levels_now, word_bits}
use Rattle.capture_vcd.specs.Slots.{assigned, changed, channel_of, code_at, level_of, value_of, valued}
use Rattle.capture_vcd.specs.declared.slots.Slot.{Slot}
use Rattle.capture_vcd.proofs.Following.{digits_set}

pub read_at : {X : Type 0} (xs : List X) (i : ℕ) (a b : X) → i < length xs → get_or xs i a ≡ get_or xs i b
read_at [] i a b less = absurd (omega (arith, less))
read_at (x ∷ xs) zero a b less = refl
read_at (x ∷ xs) (suc i) a b less = read_at xs i a b (omega (arith, less))

bit_small : (b : Bool) → level_bit b ≤ 1
bit_small true = omega arith
bit_small false = omega arith

pub word_small : (n : ℕ) (levels : List Bool) → length levels ≤ n → word_bits levels < 2 ^ n
word_small zero [] few = omega arith
word_small (suc n) [] few = let h = word_small n [] (omega arith) in let e : 2 ^ suc n ≡ 2 * 2 ^ n = grind arith in omega (arith, h, e)
word_small zero (b ∷ bs) few = absurd (omega (arith, few))
word_small (suc n) (b ∷ bs) few = let h = word_small n bs (omega (arith, few)) in let e : 2 ^ suc n ≡ 2 * 2 ^ n = grind arith in omega (arith, h, e, bit_small b)

-- what was noted of a value
pub values_are : (digits : List ℕ) (slots : List Slot) → map value_of (map (valued digits) slots) ≡ map (λ slot. is_one slot.bit digits) slots
values_are digits [] = refl
values_are digits (slot ∷ slots) = ap (λ (l : List Bool). is_one slot.bit digits ∷ l) (values_are digits slots)

pub bits_keep : (digits : List ℕ) (slots : List Slot) → map (λ slot. is_one slot.bit digits) (map (valued digits) slots) ≡ map (λ slot. is_one slot.bit digits) slots
bits_keep digits [] = refl
bits_keep digits (slot ∷ slots) = ap (λ (l : List Bool). is_one slot.bit digits ∷ l) (bits_keep digits slots)

pub levels_keep : (digits : List ℕ) (slots : List Slot) → map level_of (map (valued digits) slots) ≡ map level_of slots
levels_keep digits [] = refl
levels_keep digits (slot ∷ slots) = ap (λ (l : List Bool). level_of slot ∷ l) (levels_keep digits slots)

module _ (codes : List (Vec ℕ Global)) where
  pub channels_valued : (digits : List ℕ) (slots : List Slot) → map (channel_of codes) (map (valued digits) slots) ≡ map (channel_of codes) slots
  channels_valued digits [] = refl
  channels_valued digits (slot ∷ slots) = ap (λ (l : List (List ℕ × ℕ)). channel_of codes slot ∷ l) (channels_valued digits slots)

  pub channels_assigned : (code : List ℕ) (slots : List Slot) → map (channel_of codes) (map (assigned codes code) slots) ≡ map (channel_of codes) slots
  channels_assigned code [] = refl
  channels_assigned code (slot ∷ slots) = ap (λ (l : List (List ℕ × ℕ)). channel_of codes slot ∷ l) (channels_assigned code slots)

  -- one look at a channel in place of two
  pub levels_changed : (first : ℕ) (code : List ℕ) (slots : List Slot) → map level_of (map (assigned codes code) (map (valued (first ∷ [])) slots)) ≡ map level_of (map (changed codes first code) slots)
  levels_changed first code [] = refl
  levels_changed first code (slot ∷ slots) = ap (λ (l : List Bool). level_of (changed codes first code slot) ∷ l) (levels_changed first code slots)

  pub channels_changed : (first : ℕ) (code : List ℕ) (slots : List Slot) → map (channel_of codes) (map (assigned codes code) (map (valued (first ∷ [])) slots)) ≡ map (channel_of codes) (map (changed codes first code) slots)
  channels_changed first code [] = refl
  channels_changed first code (slot ∷ slots) = ap (λ (l : List (List ℕ × ℕ)). channel_of codes slot ∷ l) (channels_changed first code slots)

  pub channels_keep : (first : ℕ) (code : List ℕ) (slots : List Slot) → map (channel_of codes) (map (changed codes first code) slots) ≡ map (channel_of codes) slots
  channels_keep first code [] = refl
  channels_keep first code (slot ∷ slots) = ap (λ (l : List (List ℕ × ℕ)). channel_of codes slot ∷ l) (channels_keep first code slots)

  head_is : (a b : Bool) (rest bs : List Bool) → a ∷ rest ≡ b ∷ bs → a ≡ b
  head_is a b rest bs e = cc

  tail_is : (a b : Bool) (rest bs : List Bool) → a ∷ rest ≡ b ∷ bs → rest ≡ bs
  tail_is a b rest bs e = cc

  -- the levels behind a change
  pub levels_assigned : (code digits : List ℕ) (events : List Event) (slots : List Slot) → map level_of slots ≡ levels_now (map (channel_of codes) slots) events → map value_of slots ≡ map (λ slot. is_one slot.bit digits) slots
      → map level_of (map (assigned codes code) slots) ≡ levels_now (map (channel_of codes) slots) (events ++ Sets code digits ∷ [])
  levels_assigned code digits events [] now noted = refl
  levels_assigned code digits events (slot ∷ slots) now noted =
      let own = code_at codes slot.variable in
      let was = digits_now own [] events in
      let level = head_is _ _ _ _ now in
      let value = head_is _ _ _ _ noted in
      let one : level_of (assigned codes code slot) ≡ is_one slot.bit (digits_now own [] (events ++ Sets code digits ∷ [])) =
      by_test (same_name own code) (level_of slot) (value_of slot) slot.bit digits was level value ∙ sym (ap (λ (l : List ℕ). is_one slot.bit l) (digits_set own [] code digits events)) in
      λ i. one i ∷ levels_assigned code digits events slots (tail_is _ _ _ _ now) (tail_is _ _ _ _ noted) i
    where
      by_test : (t level value : Bool) (bit : ℕ) (digits was : List ℕ) → level ≡ is_one bit was → value ≡ is_one bit digits → cond t value level ≡ is_one bit (cond t digits was)
      by_test true level value bit digits was one other = other
      by_test false level value bit digits was one other = one

-- what a loop left in the slots
pub refilled : {X : Type 0} (n : ℕ) (xs ws : List X) → n ≡ length ws → refill n xs ws ≡ ws
refilled n xs ws len = take-append-le n ws (drop (length ws) xs) (omega (arith, len)) ∙ take_all n ws (omega (arith, len))

-- a text by its first byte and its rest
pub split_text : (text : List ℕ) → 0 < length text → get_or text 0 0 ∷ slice_range text 1 (length text) ≡ text
split_text [] some = absurd (omega (arith, some))
split_text (x ∷ xs) some = ap (λ (l : List ℕ). x ∷ l) (take_all (length (x ∷ xs) - 1) xs (omega arith))
