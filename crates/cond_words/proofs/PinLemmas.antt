-- Channels that join pins.
use Rattle.std.proofs.Common.{◌≡◌, inl, inr, ⊎_elim, ℕ, zero, suc, ◌+◌, ◌<◌, ◌==◌, ◌||◌, max, Bool, true, false, cond, if◌then◌else◌, nat_lt, List, [], ◌∷◌, ◌++◌, length, get_or, slice_get, Option, Some, None, refl, sym, ◌∙◌, ap, subst, arith, append_assoc}
use Rattle.std.specs.List.{list_any, position, position_from}
use Rattle.std.proofs.lemmas.Bool.{cases_lt, false≢true}
use Rattle.std.proofs.lemmas.Bool.Decides.{Decides-eqb, nat_tests}
use Rattle.std.proofs.lemmas.Iterator.Adapters.{position_from-zero}
use Rattle.std.proofs.lemmas.List.{append-nil, get_or_append_left, get_or_push, length_push}
use Rattle.std.proofs.lemmas.List.Quantifiers.{position-Some}
use Rattle.std.proofs.lemmas.Option.{slice_get-get_or}
use Rattle.la_base.specs.Naming.{find_channel, or_else, below, number_of, same_name}
use Rattle.cond_words.specs.declared.words.Letter.{Letter}
use Rattle.cond_words.specs.Binding.{Bound, On, Skips, channels, skip_of, is_pin, first_uses, pins_after, Distinct, AllBelow}
use Rattle.cond_words.specs.Steps.{with_pin}
use Rattle.wait_cond.proofs.Sets.{get_push, get_front}

eq_self : (n : ℕ) → (n == n) ≡ true
eq_self n = (Decides-eqb n n).1 refl

or_true : (b : Bool) → (b || true) ≡ true
or_true true = refl
or_true false = refl

any_get : {A : Type 0} (p : A → Bool) (xs : List A) (i : ℕ) (x : A) → slice_get xs i ≡ Some x → p x ≡ true → list_any p xs ≡ true
any_get p [] i x is passes = absurd cc
any_get p (y ∷ xs) zero x is passes = let same : y ≡ x = cc in ap (λ b. b || list_any p xs) (ap p same ∙ passes)
any_get p (y ∷ xs) (suc i) x is passes = ap (λ b. p y || b) (any_get p xs i x is passes) ∙ or_true (p y)

none_from : {A : Type 0} (p : A → Bool) (i : ℕ) (xs : List A) → position_from p i xs ≡ None → list_any p xs ≡ false
none_from p i [] e = refl
none_from p i (x ∷ xs) e = by (p x) e (none_from p (i + 1) xs)
  where
    by : (b : Bool) → cond {A = Option ℕ} b (Some i) (position_from p (i + 1) xs) ≡ None → (position_from p (i + 1) xs ≡ None → list_any p xs ≡ false) → (b || list_any p xs) ≡ false
    by true e rest = cc
    by false e rest = rest e

-- a pin is one
pub is_pin_at : (pins : List ℕ) (i channel : ℕ) → slice_get pins i ≡ Some channel → is_pin pins channel ≡ true
is_pin_at pins i channel is = any_get (λ pin. pin == channel) pins i channel is (eq_self channel)

-- a channel that is a pin has a place
pub is_pin_there : (pins : List ℕ) (channel : ℕ) → is_pin pins channel ≡ true → (line : ℕ) × (slice_get pins line ≡ Some channel)
is_pin_there [] channel e = absurd cc
is_pin_there (pin ∷ pins) channel e = by (pin == channel) refl e (is_pin_there pins channel)
  where
    by : (b : Bool) → (pin == channel) ≡ b → (b || is_pin pins channel) ≡ true → (is_pin pins channel ≡ true → (line : ℕ) × (slice_get pins line ≡ Some channel))
        → (line : ℕ) × (slice_get (pin ∷ pins) line ≡ Some channel)
    by true same e more = (0, ap (λ (n : ℕ). Some n) ((Decides-eqb pin channel).0 same))
    by false other e more = let m = more e in (suc m.0, m.1)

-- the place of a channel that is a pin
pub pin_there : (pins : List ℕ) (channel place : ℕ) → position (λ pin. pin == channel) pins ≡ Some place → slice_get pins place ≡ Some channel
pin_there pins channel place e =
    let p = position-Some (λ pin. pin == channel) pins place 0 e in
    slice_get-get_or pins place 0 p.0 ∙ ap (λ (n : ℕ). Some n) ((Decides-eqb (get_or pins place 0) channel).0 p.1)

-- a channel that has no place isn't a pin
pub no_pin : (pins : List ℕ) (channel : ℕ) → position (λ pin. pin == channel) pins ≡ None → is_pin pins channel ≡ false
no_pin pins channel e = none_from (λ pin. pin == channel) 0 pins (sym (position_from-zero (λ pin. pin == channel) pins) ∙ e)

pub with_old : (pins : List ℕ) (channel : ℕ) → is_pin pins channel ≡ true → with_pin pins channel ≡ pins
with_old pins channel e = ap (λ (b : Bool). if◌then◌else◌ {A = List ℕ} b pins (pins ++ channel ∷ [])) e

pub with_new : (pins : List ℕ) (channel : ℕ) → is_pin pins channel ≡ false → with_pin pins channel ≡ pins ++ channel ∷ []
with_new pins channel e = ap (λ (b : Bool). if◌then◌else◌ {A = List ℕ} b pins (pins ++ channel ∷ [])) e

module _ (pins : List ℕ) (channel : ℕ) where
  -- a property of the pins, whether or not the channel joins them
  either_way : (P : List ℕ → Type 0) → (is_pin pins channel ≡ true → P pins) → (is_pin pins channel ≡ false → P (pins ++ channel ∷ [])) → P (with_pin pins channel)
  either_way P old new = by (is_pin pins channel) refl
    where
      by : (b : Bool) → is_pin pins channel ≡ b → P (if b then pins else pins ++ channel ∷ [])
      by true e = old e
      by false e = new e

  pub distinct_with : Distinct pins → Distinct (with_pin pins channel)
  distinct_with d = either_way Distinct (λ _. d) (λ e i j x p q.
      ⊎_elim
      (λ (a : slice_get pins i ≡ Some x). ⊎_elim
      (λ (b : slice_get pins j ≡ Some x). d i j x a b)
      (λ b. absurd (false≢true (sym e ∙ is_pin_at pins i channel (subst (λ (n : ℕ). slice_get pins i ≡ Some n) (sym b.1) a))))
      (get_push pins channel j x q))
      (λ a. ⊎_elim
      (λ (b : slice_get pins j ≡ Some x). absurd (false≢true (sym e ∙ is_pin_at pins j channel (subst (λ (n : ℕ). slice_get pins j ≡ Some n) (sym a.1) b))))
      (λ b. a.0 ∙ sym b.0)
      (get_push pins channel j x q))
      (get_push pins channel i x p))

  pub stays_pin : (i x : ℕ) → slice_get pins i ≡ Some x → slice_get (with_pin pins channel) i ≡ Some x
  stays_pin i x is = either_way (λ l. slice_get l i ≡ Some x) (λ _. is) (λ _. get_front pins (channel ∷ []) i x is)

  pub below_with : (count : ℕ) → channel < count → AllBelow count pins → AllBelow count (with_pin pins channel)
  below_with count within all = either_way (AllBelow count) (λ _. all) (λ _ k low. elim (cases_lt k (length pins)) [
    | inl front ↦ subst (λ (n : ℕ). n < count) (sym (get_or_append_left pins (channel ∷ []) 0 k front)) (all k front)
    | inr last ↦ subst (λ (n : ℕ). n < count) (sym (get_or_push pins channel 0 k (omega (arith, last, low, length_push pins channel)))) within
  ])

-- one channel more
pub uses_more : (pins used : List ℕ) (channel : ℕ) → pins ++ first_uses pins (used ++ channel ∷ []) ≡ with_pin (pins ++ first_uses pins used) channel
uses_more pins [] channel = by (is_pin pins channel) ∙ ap (λ (l : List ℕ). with_pin l channel) (sym (append-nil pins))
  where
    by : (b : Bool) → pins ++ (if b then first_uses pins [] else channel ∷ first_uses (pins ++ channel ∷ []) []) ≡ (if b then pins else pins ++ channel ∷ [])
    by true = append-nil pins
    by false = refl
uses_more pins (x ∷ used) channel = by (is_pin pins x) (uses_more pins used channel) (uses_more (pins ++ x ∷ []) used channel)
  where
    by : (b : Bool) → pins ++ first_uses pins (used ++ channel ∷ []) ≡ with_pin (pins ++ first_uses pins used) channel
        → (pins ++ x ∷ []) ++ first_uses (pins ++ x ∷ []) (used ++ channel ∷ []) ≡ with_pin ((pins ++ x ∷ []) ++ first_uses (pins ++ x ∷ []) used) channel
        → pins ++ (if b then first_uses pins (used ++ channel ∷ []) else x ∷ first_uses (pins ++ x ∷ []) (used ++ channel ∷ []))
        ≡ with_pin (pins ++ (if b then first_uses pins used else x ∷ first_uses (pins ++ x ∷ []) used)) channel
    by true old new = old
    by false old new = sym (append_assoc pins (x ∷ []) (first_uses (pins ++ x ∷ []) (used ++ channel ∷ []))) ∙ new
        ∙ ap (λ (l : List ℕ). with_pin l channel) (append_assoc pins (x ∷ []) (first_uses (pins ++ x ∷ []) used))

channels_more : (bounds : List Bound) (channel : ℕ) (letter : Letter) → channels (bounds ++ On channel letter ∷ []) ≡ channels bounds ++ channel ∷ []
channels_more [] channel letter = refl
channels_more (On c l ∷ bounds) channel letter = ap (λ (xs : List ℕ). c ∷ xs) (channels_more bounds channel letter)
channels_more (Skips n ∷ bounds) channel letter = channels_more bounds channel letter

channels_skip : (bounds : List Bound) (number : ℕ) → channels (bounds ++ Skips number ∷ []) ≡ channels bounds
channels_skip [] number = refl
channels_skip (On c l ∷ bounds) number = ap (λ (xs : List ℕ). c ∷ xs) (channels_skip bounds number)
channels_skip (Skips n ∷ bounds) number = channels_skip bounds number

pub pins_more : (pins : List ℕ) (bounds : List Bound) (channel : ℕ) (letter : Letter) → pins_after pins (bounds ++ On channel letter ∷ []) ≡ with_pin (pins_after pins bounds) channel
pins_more pins bounds channel letter = ap (λ (xs : List ℕ). pins ++ first_uses pins xs) (channels_more bounds channel letter) ∙ uses_more pins (channels bounds) channel

pub pins_same : (pins : List ℕ) (bounds : List Bound) (number : ℕ) → pins_after pins (bounds ++ Skips number ∷ []) ≡ pins_after pins bounds
pins_same pins bounds number = ap (λ (xs : List ℕ). pins ++ first_uses pins xs) (channels_skip bounds number)

pub skip_same : (bounds : List Bound) (channel : ℕ) (letter : Letter) → skip_of (bounds ++ On channel letter ∷ []) ≡ skip_of bounds
skip_same [] channel letter = refl
skip_same (On c l ∷ bounds) channel letter = skip_same bounds channel letter
skip_same (Skips n ∷ bounds) channel letter = ap (λ (k : ℕ). max n k) (skip_same bounds channel letter)

pub skip_more : (bounds : List Bound) (number : ℕ) → skip_of (bounds ++ Skips number ∷ []) ≡ max (skip_of bounds) number
skip_more [] number = omega arith
skip_more (On c l ∷ bounds) number = skip_more bounds number
skip_more (Skips n ∷ bounds) number = ap (λ (k : ℕ). max n k) (skip_more bounds number) ∙ omega arith

-- a channel that is found is one of the names
pub found_below : (names : List (List ℕ)) (reference : List ℕ) (channel : ℕ) → find_channel names reference ≡ Some channel → channel < length names
found_below names reference channel e = by (position (λ name. same_name name reference) names) refl e
  where
    below_by : (n : ℕ) (b : Bool) → nat_lt n (length names) ≡ b → (if b then Some n else None) ≡ Some channel → channel < length names
    below_by n true t e = let same : n ≡ channel = cc in grind (arith, nat_tests)
    below_by n false t e = absurd cc

    by_number : (o : Option ℕ) → below (length names) o ≡ Some channel → channel < length names
    by_number None e = absurd cc
    by_number (Some n) e = below_by n (nat_lt n (length names)) refl e

    by : (o : Option ℕ) → position (λ name. same_name name reference) names ≡ o → or_else o (below (length names) (number_of reference)) ≡ Some channel → channel < length names
    by (Some n) p e = let same : n ≡ channel = cc in (position-Some (λ name. same_name name reference) names channel [] (p ∙ ap (λ (m : ℕ). Some m) same)).0
    by None p e = by_number (number_of reference) e
