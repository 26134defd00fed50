-- Binding terms one after another.
use Rattle.std.proofs.Common.{◌≡◌, ◌≢◌, ◌⊎◌, inl, inr, ⊎_elim, ℕ, zero, suc, ◌+◌, ◌<◌, ◌≤◌, max, Bool, true, false, if◌then◌else◌, nat_le, List, [], ◌∷◌, ◌++◌, length, take, drop, slice_get, Option, Some, None, Result, Ok, Err, refl, sym, ◌∙◌, ap, subst, arith}
use Rattle.std.specs.List.{enumerate_from}
use Rattle.std.proofs.lemmas.Bool.Decides.{nat_tests}
use Rattle.std.proofs.lemmas.List.{at_drop_more, at_drop_all, take_at}
use Rattle.std.proofs.lemmas.Nat.Bits.{bit_at-zero}
use Rattle.std.proofs.lemmas.Option.{get_or_from_slice_get, slice_get_within}
use Rattle.la_base.specs.Naming.{find_channel}
use Rattle.text_parts.specs.Reading.{then_read, read_parts}
use Rattle.wait_cond.specs.declared.alt.Alt.{Alt}
use Rattle.cond_words.specs.declared.faults.BindWhy.{BindWhy}
use Rattle.cond_words.specs.declared.faults.BindWhy.TheVariants.{Unknown, TooMany, Rate}
use Rattle.cond_words.specs.declared.faults.ItemFault.{ItemFault}
use Rattle.cond_words.specs.declared.words.Letter.{Letter}
use Rattle.cond_words.specs.declared.words.Letter.TheVariants.{Low, High, Rise, Fall, Edge, Steady}
use Rattle.wait_cond.specs.Meets.{Which}
use Rattle.cond_words.specs.Words.{Meaning, Line, Skip, meaning_of, meanings}
use Rattle.cond_words.specs.declared.words.Term.{Term}
use Rattle.cond_words.specs.Binding.{Bound, On, Skips, channels, first_uses, pins_after, Distinct, AllBelow, on_channel, bind_term, bind_terms, mask_of, Asked, Asks, IsBound}
use Rattle.cond_words.specs.Steps.{with_pin, set_mask, OnPin, SkipStep, TermStep}
use Rattle.wait_cond.proofs.Sets.{get_push, get_front, get_last}
use Rattle.cond_words.proofs.PinLemmas.{distinct_with, stays_pin, below_with, pins_more, pins_same, skip_same, skip_more, found_below}

-- what setting one mask does to each
set_masks : (alt : Alt) (letter other : Letter) (mask : ℕ) → ((letter ≡ other) × (mask_of (set_mask alt letter mask) other ≡ mask)) ⊎ ((letter ≢ other) × (mask_of (set_mask alt letter mask) other ≡ mask_of alt other))
set_masks alt Low Low mask = inl (refl, refl)
set_masks alt High High mask = inl (refl, refl)
set_masks alt Rise Rise mask = inl (refl, refl)
set_masks alt Fall Fall mask = inl (refl, refl)
set_masks alt Edge Edge mask = inl (refl, refl)
set_masks alt Steady Steady mask = inl (refl, refl)
set_masks alt letter other mask = inr (λ same. cc, refl)

set_skip : (alt : Alt) (letter : Letter) (mask : ℕ) → (set_mask alt letter mask).skip ≡ alt.skip
set_skip alt Low mask = refl
set_skip alt High mask = refl
set_skip alt Rise mask = refl
set_skip alt Fall mask = refl
set_skip alt Edge mask = refl
set_skip alt Steady mask = refl

-- each channel of a term is a pin
abbrev pub Pinned : List ℕ → List Bound → Type 0
Pinned pins bounds = (term channel : ℕ) (letter : Letter) → slice_get bounds term ≡ Some (On channel letter) → (line : ℕ) × (slice_get pins line ≡ Some channel)

-- the first k terms are bound, and the others are to come
pub record SoFar (most : ℕ) (names : List (List ℕ)) (old : List ℕ) (terms : List Meaning) (k : ℕ) (pins : List ℕ) (alt : Alt) : Type 0 where
  pub bounds : List Bound
  pub reads : bind_terms most names old terms ≡ read_parts (bind_term most names old) bounds (enumerate_from k (drop k terms))
  pub pins_are : pins ≡ pins_after old bounds
  pub asks : Asks pins bounds alt
  pub distinct : Distinct pins
  pub pinned : Pinned pins bounds
  pub below : AllBelow (length names) old → AllBelow (length names) pins

module _ (pins new_pins : List ℕ) (bounds : List Bound) (alt new_alt : Alt) (letter : Letter) (found : Option ℕ) (most : ℕ) (step : OnPin most pins new_pins alt new_alt letter found)
    (distinct : Distinct pins) (pinned : Pinned pins bounds) (so_far : Asks pins bounds alt) where
  more_bounds : List Bound
  more_bounds = bounds ++ On step.channel letter ∷ []

  old_pin : (line channel : ℕ) → slice_get pins line ≡ Some channel → slice_get new_pins line ≡ Some channel
  old_pin line channel is = subst (λ (l : List ℕ). slice_get l line ≡ Some channel) (sym step.pins) (stays_pin pins step.channel line channel is)

  new_distinct : Distinct new_pins
  new_distinct = subst Distinct (sym step.pins) (distinct_with pins step.channel distinct)

  old_asked : (other : Letter) (line : ℕ) → Asked pins bounds other line → Asked new_pins (bounds ++ On step.channel letter ∷ []) other line
  old_asked other line a = record {
    channel = a.channel;
    pin = old_pin line a.channel a.pin;
    term = a.term;
    asks = get_front bounds (On step.channel letter ∷ []) a.term (On a.channel other) a.asks;
  }

  -- what is asked is what was asked, or the new term
  asked_cases : (other : Letter) (line : ℕ) → Asked new_pins (bounds ++ On step.channel letter ∷ []) other line → Asked pins bounds other line ⊎ ((line ≡ step.line) × (letter ≡ other))
  asked_cases other line a = ⊎_elim
      (λ (front : slice_get bounds a.term ≡ Some (On a.channel other)).
      let p = pinned a.term a.channel other front in
      let same : p.0 ≡ line = new_distinct p.0 line a.channel (old_pin p.0 a.channel p.1) a.pin in
      inl (record { channel = a.channel; pin = subst (λ (n : ℕ). slice_get pins n ≡ Some a.channel) same p.1; term = a.term; asks = front }))
      (λ last.
      let channel : step.channel ≡ a.channel = cc in
      let same : letter ≡ other = cc in
      inr (new_distinct line step.line a.channel a.pin (subst (λ (n : ℕ). slice_get new_pins step.line ≡ Some n) channel step.pin), same))
      (get_push bounds (On step.channel letter) a.term (On a.channel other) a.asks)

  new_asked : Asked new_pins (bounds ++ On step.channel letter ∷ []) letter step.line
  new_asked = record { channel = step.channel; pin = step.pin; term = length bounds; asks = get_last bounds (On step.channel letter) }

  masks : (other : Letter) → Which (mask_of (set_mask alt letter step.asks.mask) other) (Asked new_pins (bounds ++ On step.channel letter ∷ []) other)
  masks other = elim (set_masks alt letter other step.asks.mask) [
    | inl same ↦ subst (λ (m : ℕ). Which m (Asked new_pins (bounds ++ On step.channel letter ∷ []) other)) (sym same.1)
        (subst (λ (l : Letter). Which step.asks.mask (Asked new_pins (bounds ++ On step.channel letter ∷ []) l)) same.0 (record {
          each = λ line one. ⊎_elim
              (λ old. old_asked letter line ((so_far.masks letter).each line old))
              (λ is. subst (λ (n : ℕ). Asked new_pins (bounds ++ On step.channel letter ∷ []) letter n) (sym is) new_asked)
              (step.asks.more.each line one);
          all = λ line a. step.asks.more.all line (⊎_elim (λ old. inl ((so_far.masks letter).all line old)) (λ is. inr is.0) (asked_cases letter line a));
        }))
    | inr not ↦ subst (λ (m : ℕ). Which m (Asked new_pins (bounds ++ On step.channel letter ∷ []) other)) (sym not.1) (record {
      each = λ line one. old_asked other line ((so_far.masks other).each line one);
      all = λ line a. ⊎_elim (λ old. (so_far.masks other).all line old) (λ is. absurd (not.0 is.1)) (asked_cases other line a);
    })
  ]

  pub asks_more : Asks new_pins (bounds ++ On step.channel letter ∷ []) new_alt
  asks_more = subst (Asks new_pins (bounds ++ On step.channel letter ∷ [])) (sym step.asks.set)
      (record { masks = masks; skip_is = set_skip alt letter step.asks.mask ∙ so_far.skip_is ∙ sym (skip_same bounds step.channel letter) })

  pub pinned_more : Pinned new_pins (bounds ++ On step.channel letter ∷ [])
  pinned_more term channel other is = ⊎_elim
      (λ (front : slice_get bounds term ≡ Some (On channel other)). let p = pinned term channel other front in (p.0, old_pin p.0 channel p.1))
      (λ last. let same : step.channel ≡ channel = cc in (step.line, subst (λ (n : ℕ). slice_get new_pins step.line ≡ Some n) same step.pin))
      (get_push bounds (On step.channel letter) term (On channel other) is)

module _ (most : ℕ) (names : List (List ℕ)) (old : List ℕ) (terms : List Meaning) (k : ℕ) (pins : List ℕ) (alt : Alt) (s : SoFar most names old terms k pins alt) where
  -- the next term
  reads_next : (term : Meaning) → slice_get terms k ≡ Some term → bind_terms most names old terms
      ≡ then_read (bind_term most names old s.bounds (k, term)) (λ bound. read_parts (bind_term most names old) (s.bounds ++ bound ∷ []) (enumerate_from (k + 1) (drop (k + 1) terms)))
  reads_next term is = s.reads
      ∙ at_drop_more (λ l. read_parts (bind_term most names old) s.bounds (enumerate_from k l)) terms k term (slice_get_within terms k term is)
      ∙ ap (λ t. read_parts (bind_term most names old) s.bounds ((k, t) ∷ enumerate_from (k + 1) (drop (k + 1) terms))) (get_or_from_slice_get terms k term term is)

  reads_good : (term : Meaning) (bound : Bound) → slice_get terms k ≡ Some term → bind_term most names old s.bounds (k, term) ≡ Ok bound
      → bind_terms most names old terms ≡ read_parts (bind_term most names old) (s.bounds ++ bound ∷ []) (enumerate_from (k + 1) (drop (k + 1) terms))
  reads_good term bound is good = reads_next term is
      ∙ ap (λ r. then_read r (λ bound. read_parts (bind_term most names old) (s.bounds ++ bound ∷ []) (enumerate_from (k + 1) (drop (k + 1) terms)))) good

  reads_bad : (term : Meaning) (fault : ItemFault) → slice_get terms k ≡ Some term → bind_term most names old s.bounds (k, term) ≡ Err fault
      → bind_terms most names old terms ≡ Err fault
  reads_bad term fault is bad = reads_next term is
      ∙ ap (λ r. then_read r (λ bound. read_parts (bind_term most names old) (s.bounds ++ bound ∷ []) (enumerate_from (k + 1) (drop (k + 1) terms)))) bad

  -- how many pins there are with one channel more
  count_more : (channel : ℕ) (letter : Letter) → length (pins_after old (s.bounds ++ On channel letter ∷ [])) ≡ length (with_pin pins channel)
  count_more channel letter = ap (λ (l : List ℕ). length l) (pins_more old s.bounds channel letter ∙ ap (λ (l : List ℕ). with_pin l channel) (sym s.pins_are))

  judged : (channel : ℕ) (letter : Letter) (reference : List ℕ) (b : Bool) → find_channel names reference ≡ Some channel → nat_le (length (with_pin pins channel)) most ≡ b
      → bind_term most names old s.bounds (k, Line reference letter) ≡ (if b then Ok (On channel letter) else Err (record { item = k; why = TooMany }))
  judged channel letter reference b found fits =
      ap (λ (o : Option ℕ). on_channel most old s.bounds k letter o) found ∙ ap (λ (n : ℕ). judged_by (nat_le n most)) (count_more channel letter) ∙ ap judged_by fits
    where
      judged_by : Bool → Result Bound ItemFault
      judged_by b = if b then Ok (On channel letter) else Err (record { item = k; why = TooMany })

  -- a line's term joins those that are bound
  pub line_more : (reference : List ℕ) (letter : Letter) (new_pins : List ℕ) (new_alt : Alt) → slice_get terms k ≡ Some (Line reference letter)
      → OnPin most pins new_pins alt new_alt letter (find_channel names reference) → SoFar most names old terms (k + 1) new_pins new_alt
  line_more reference letter new_pins new_alt is step = record {
    bounds = s.bounds ++ On step.channel letter ∷ [];
    reads = reads_good (Line reference letter) (On step.channel letter) is (judged step.channel letter reference true step.is fits);
    pins_are = step.pins ∙ ap (λ (l : List ℕ). with_pin l step.channel) s.pins_are ∙ sym (pins_more old s.bounds step.channel letter);
    asks = asks_more pins new_pins s.bounds alt new_alt letter (find_channel names reference) most step s.distinct s.pinned s.asks;
    distinct = subst Distinct (sym step.pins) (distinct_with pins step.channel s.distinct);
    pinned = pinned_more pins new_pins s.bounds alt new_alt letter (find_channel names reference) most step s.distinct s.pinned s.asks;
    below = λ b. subst (AllBelow (length names)) (sym step.pins) (below_with pins step.channel (length names) (found_below names reference step.channel step.is) (s.below b));
  }
    where
      fits : nat_le (length (with_pin pins step.channel)) most ≡ true
      fits = let few : length (with_pin pins step.channel) ≤ most = subst (λ (l : List ℕ). length l ≤ most) step.pins step.few in grind (arith, nat_tests)

  -- a skip's term joins them
  pub skip_joins : (number : ℕ) (new_pins : List ℕ) (new_alt : Alt) → slice_get terms k ≡ Some (Skip number)
      → SkipStep pins new_pins alt new_alt number → SoFar most names old terms (k + 1) new_pins new_alt
  skip_joins number new_pins new_alt is step =
      subst (λ (l : List ℕ). SoFar most names old terms (k + 1) l new_alt) (sym step.pins)
      (subst (λ (a : Alt). SoFar most names old terms (k + 1) pins a) (sym step.alt) (record {
        bounds = s.bounds ++ Skips number ∷ [];
        reads = reads_good (Skip number) (Skips number) is refl;
        pins_are = s.pins_are ∙ sym (pins_same old s.bounds number);
        asks = record {
          masks = masks_stay;
          skip_is = ap (λ (n : ℕ). max n number) s.asks.skip_is ∙ sym (skip_more s.bounds number);
        };
        distinct = s.distinct;
        pinned = λ term channel letter there. ⊎_elim (λ (front : slice_get s.bounds term ≡ Some (On channel letter)). s.pinned term channel letter front) (λ last. absurd (other last.1)) (get_push s.bounds (Skips number) term (On channel letter) there);
        below = s.below;
      }))
    where
      other : {channel : ℕ} {letter : Letter} → Skips number ≡ On channel letter → ⊥
      other e = cc

      asked : (letter : Letter) (line : ℕ) → Asked pins (s.bounds ++ Skips number ∷ []) letter line → Asked pins s.bounds letter line
      asked letter line a = ⊎_elim
          (λ (front : slice_get s.bounds a.term ≡ Some (On a.channel letter)). record { channel = a.channel; pin = a.pin; term = a.term; asks = front })
          (λ last. absurd (other last.1)) (get_push s.bounds (Skips number) a.term (On a.channel letter) a.asks)

      masks_stay : (letter : Letter) → Which (mask_of (record alt { skip = max alt.skip number }) letter) (Asked pins (s.bounds ++ Skips number ∷ []) letter)
      masks_stay letter = subst (λ (m : ℕ). Which m (Asked pins (s.bounds ++ Skips number ∷ []) letter)) (same_mask letter) (record {
        each = λ line one. let a = (s.asks.masks letter).each line one in record { channel = a.channel; pin = a.pin; term = a.term; asks = get_front s.bounds (Skips number ∷ []) a.term (On a.channel letter) a.asks };
        all = λ line a. (s.asks.masks letter).all line (asked letter line a);
      })
        where
          same_mask : (l : Letter) → mask_of alt l ≡ mask_of (record alt { skip = max alt.skip number }) l
          same_mask Low = refl
          same_mask High = refl
          same_mask Rise = refl
          same_mask Fall = refl
          same_mask Edge = refl
          same_mask Steady = refl

  -- a term whose channel isn't found
  pub unknown : (reference : List ℕ) (letter : Letter) → slice_get terms k ≡ Some (Line reference letter) → find_channel names reference ≡ None
      → bind_terms most names old terms ≡ Err (record { item = k; why = Unknown })
  unknown reference letter is none = reads_bad (Line reference letter) (record { item = k; why = Unknown }) is (ap (λ (o : Option ℕ). on_channel most old s.bounds k letter o) none)

  -- a term whose channel has no place
  pub too_many : (reference : List ℕ) (letter : Letter) (channel : ℕ) → slice_get terms k ≡ Some (Line reference letter) → find_channel names reference ≡ Some channel
      → most < length (with_pin pins channel) → bind_terms most names old terms ≡ Err (record { item = k; why = TooMany })
  too_many reference letter channel is found many =
      let no : nat_le (length (with_pin pins channel)) most ≡ false = grind (arith, nat_tests) in
      reads_bad (Line reference letter) (record { item = k; why = TooMany }) is (judged channel letter reference false found no)

  -- all terms are bound
  pub all_bound : length terms ≤ k → IsBound most names old pins terms alt
  all_bound past = record {
    bounds = s.bounds;
    read = s.reads ∙ at_drop_all (λ l. read_parts (bind_term most names old) s.bounds (enumerate_from k l)) terms k past;
    pins = s.pins_are;
    asks = s.asks;
  }

  -- the pins before are the first of them
  pub old_pins : take (length old) pins ≡ old
  old_pins = ap (λ (l : List ℕ). take (length old) l) s.pins_are ∙ take_at old (first_uses old (channels s.bounds)) (length old) refl

-- a step that binds the next term
pub step_done : (most : ℕ) (names : List (List ℕ)) (old : List ℕ) (terms : List Meaning) (k : ℕ) (pins new_pins : List ℕ) (alt new_alt : Alt) (term : Meaning) (done : Unit {0})
    → SoFar most names old terms k pins alt → slice_get terms k ≡ Some term → TermStep most names pins new_pins alt new_alt term (Ok done) → SoFar most names old terms (k + 1) new_pins new_alt
step_done most names old terms k pins new_pins alt new_alt (Line reference letter) done s is step = line_more most names old terms k pins alt s reference letter new_pins new_alt is step
step_done most names old terms k pins new_pins alt new_alt (Skip number) done s is step = skip_joins most names old terms k pins alt s number new_pins new_alt is step

-- a step that finds a fault
pub step_fault : (most : ℕ) (names : List (List ℕ)) (old : List ℕ) (terms : List Meaning) (k : ℕ) (pins new_pins : List ℕ) (alt new_alt : Alt) (term : Meaning) (why : BindWhy)
    → SoFar most names old terms k pins alt → slice_get terms k ≡ Some term → TermStep most names pins new_pins alt new_alt term (Err why)
    → (bind_terms most names old terms ≡ Err (record { item = k; why = why })) × (take (length old) new_pins ≡ old)
step_fault most names old terms k pins new_pins alt new_alt (Line reference letter) Unknown s is step =
    (unknown most names old terms k pins alt s reference letter is step.1, ap (λ (l : List ℕ). take (length old) l) step.0 ∙ old_pins most names old terms k pins alt s)
step_fault most names old terms k pins new_pins alt new_alt (Line reference letter) TooMany s is step =
    (too_many most names old terms k pins alt s reference letter step.1 is step.2 step.3, ap (λ (l : List ℕ). take (length old) l) step.0 ∙ old_pins most names old terms k pins alt s)
step_fault most names old terms k pins new_pins alt new_alt (Line reference letter) Rate s is step = absurd step
step_fault most names old terms k pins new_pins alt new_alt (Skip number) why s is step = absurd step

-- the meaning of a term at its place
pub meaning_at : (terms : List Term) (k : ℕ) (term : Term) → slice_get terms k ≡ Some term → slice_get (meanings terms) k ≡ Some (meaning_of term)
meaning_at [] k term is = absurd cc
meaning_at (t ∷ terms) zero term is = let same : t ≡ term = cc in ap (λ (x : Term). Some (meaning_of x)) same
meaning_at (t ∷ terms) (suc k) term is = meaning_at terms k term is

-- nothing is bound yet
pub none_bound : (most : ℕ) (names : List (List ℕ)) (pins : List ℕ) (terms : List Meaning) (alt : Alt) → Distinct pins → ((letter : Letter) → mask_of alt letter ≡ 0) → alt.skip ≡ 0 → SoFar most names pins terms 0 pins alt
none_bound most names pins terms alt distinct masks skip = record {
  bounds = [];
  reads = refl;
  pins_are = sym (append_none pins);
  asks = record {
    masks = λ letter. subst (λ (m : ℕ). Which m (Asked pins [] letter)) (sym (masks letter)) (record { each = λ line one. absurd (omega (arith, one, bit_at-zero line)); all = λ line a. absurd (nothing a.term (On a.channel letter) a.asks) });
    skip_is = skip;
  };
  distinct = distinct;
  pinned = λ term channel letter is. absurd (nothing term (On channel letter) is);
  below = λ b. b;
}
  where
    append_none : {A : Type 0} (xs : List A) → xs ++ [] ≡ xs
    append_none [] = refl
    append_none (x ∷ xs) = ap (λ rest. x ∷ rest) (append_none xs)

    nothing : (i : ℕ) (bound : Bound) → slice_get [] i ≡ Some bound → ⊥
    nothing i bound e = cc
