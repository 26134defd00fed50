-- Channels that join pins at their bits.
use Rattle.std.proofs.Common.{◌≡◌, ℕ, zero, suc, ◌+◌, ◌<◌, ◌≤◌, ◌==◌, ◌||◌, Bool, true, false, not, cond, if◌then◌else◌, List, [], ◌∷◌, ◌++◌, length, slice_get, Some, None, Result, Ok, Err, refl, sym, ◌∙◌, ap, arith}
use Rattle.std.specs.Prelude.{nat_lt}
use Rattle.std.proofs.lemmas.Bool.Decides.{Decides-eqb, nat_tests}
use Rattle.std.proofs.lemmas.List.{length_push}
use Rattle.cond_words.specs.Binding.{is_pin}
use Rattle.cond_words.specs.Steps.{with_pin, Placed}
use Rattle.cond_words.proofs.PinLemmas.{distinct_with, below_with, with_old, with_new}
use Rattle.cond_words.specs.declared.faults.BindWhy.{BindWhy}
use Rattle.cond_words.specs.declared.faults.BindWhy.TheVariants as why
use Rattle.stack_spec.specs.Binding.{RowBound, On, bit_of, on_channel}
use Rattle.stack_spec.specs.BindSteps.{ArePins, BindsRow}

-- the bit of a channel that is a pin, and of one that isn't
bit_there : (pins : List ℕ) (channel : ℕ) → is_pin pins channel ≡ true → slice_get pins (bit_of pins channel) ≡ Some channel
bit_there [] channel e = absurd cc
bit_there (pin ∷ pins) channel e = by (pin == channel) refl e (bit_there pins channel)
  where
    by : (b : Bool) → (pin == channel) ≡ b → (b || is_pin pins channel) ≡ true → (is_pin pins channel ≡ true → slice_get pins (bit_of pins channel) ≡ Some channel)
        → slice_get (pin ∷ pins) (cond (not b) (1 + bit_of pins channel) 0) ≡ Some channel
    by true same e more = ap (λ (n : ℕ). Some n) ((Decides-eqb pin channel).0 same)
    by false other e more = (let next : 1 + bit_of pins channel ≡ suc (bit_of pins channel) = omega arith in ap (λ (k : ℕ). slice_get (pin ∷ pins) k) next) ∙ more e

bit_behind : (pins : List ℕ) (channel : ℕ) → is_pin pins channel ≡ false → bit_of pins channel ≡ length pins
bit_behind [] channel e = refl
bit_behind (pin ∷ pins) channel e = by (pin == channel) e (bit_behind pins channel)
  where
    by : (b : Bool) → (b || is_pin pins channel) ≡ false → (is_pin pins channel ≡ false → bit_of pins channel ≡ length pins) → cond (not b) (1 + bit_of pins channel) 0 ≡ length (pin ∷ pins)
    by true e more = absurd cc
    by false e more = (let same : bit_of pins channel ≡ length pins = more e in omega arith)

last_get : (xs : List ℕ) (y : ℕ) → slice_get (xs ++ y ∷ []) (length xs) ≡ Some y
last_get [] y = refl
last_get (x ∷ xs) y = last_get xs y

bit_within : (pins : List ℕ) (k channel : ℕ) → slice_get pins k ≡ Some channel → k < length pins
bit_within [] k channel e = absurd cc
bit_within (pin ∷ pins) zero channel e = omega arith
bit_within (pin ∷ pins) (suc k) channel e = (let low : k < length pins = bit_within pins k channel e in omega arith)

-- the pin at the bit of a channel that joined is this channel
bit_joined : (pins : List ℕ) (channel : ℕ) → slice_get (with_pin pins channel) (bit_of pins channel) ≡ Some channel
bit_joined pins channel = by (is_pin pins channel) refl
  where
    by : (b : Bool) → is_pin pins channel ≡ b → slice_get (with_pin pins channel) (bit_of pins channel) ≡ Some channel
    by true e = ap (λ (l : List ℕ). slice_get l (bit_of pins channel)) (with_old pins channel e) ∙ bit_there pins channel e
    by false e = (λ i. slice_get (with_new pins channel e i) (bit_behind pins channel e i)) ∙ last_get pins channel

-- pins that a channel joined
pub pins_with : (most count : ℕ) (pins : List ℕ) (channel : ℕ) → ArePins most count pins → channel < count → length (with_pin pins channel) ≤ most → ArePins most count (with_pin pins channel)
pins_with most count pins channel are low few = record { distinct = distinct_with pins channel are.distinct; few = few; below = below_with pins channel count low are.below }

-- a channel has joined at its bit
pub channel_placed : (most count : ℕ) (old new : List ℕ) (channel place : ℕ) → ArePins most count old → Placed most old new channel (Some place) → BindsRow (on_channel most old (Some channel)) old new (Some place)
channel_placed most count old new channel place are placed =
    let at : slice_get (with_pin old channel) place ≡ Some channel = ap (λ (l : List ℕ). slice_get l place) (sym placed.0) ∙ placed.1 in
    let same : place ≡ bit_of old channel = distinct_with old channel are.distinct place (bit_of old channel) channel at (bit_joined old channel) in
    let size : length new ≡ length (with_pin old channel) = ap length placed.0 in
    let low : bit_of old channel < length (with_pin old channel) = bit_within (with_pin old channel) (bit_of old channel) channel (bit_joined old channel) in
    let fits : bit_of old channel < most = omega (arith, placed.2, size, low) in
    let test : nat_lt (bit_of old channel) most ≡ true = grind (arith, nat_tests) in
    record {
      row = On channel (bit_of old channel);
      reads = ap (λ (b : Bool). if◌then◌else◌ {A = Result RowBound BindWhy} b (Ok (On channel (bit_of old channel))) (Err why.TooMany)) test;
      pins = placed.0;
      value_is = ap (λ (n : ℕ). Some n) same;
    }

-- there is no bit for a channel
pub channel_refused : (most count : ℕ) (old new : List ℕ) (channel : ℕ) → ArePins most count old → Placed most old new channel None → on_channel most old (Some channel) ≡ Err why.TooMany
channel_refused most count old new channel are refused = by (is_pin old channel) refl
  where
    by : (b : Bool) → is_pin old channel ≡ b → on_channel most old (Some channel) ≡ Err why.TooMany
    by true e = (let size : length (with_pin old channel) ≡ length old = ap length (with_old old channel e) in absurd (omega (arith, refused.1, are.few, size)))
    by false e =
        let size : length (with_pin old channel) ≡ length old + 1 = ap (λ (l : List ℕ). length l) (with_new old channel e) ∙ length_push old channel in
        let same : bit_of old channel ≡ length old = bit_behind old channel e in
        let high : most ≤ bit_of old channel = omega (arith, refused.1, size, same) in
        let test : nat_lt (bit_of old channel) most ≡ false = grind (arith, nat_tests) in
        ap (λ (b : Bool). if◌then◌else◌ {A = Result RowBound BindWhy} b (Ok (On channel (bit_of old channel))) (Err why.TooMany)) test
