-- The terms that are bound, and what their masks ask.
use Rattle.std.proofs.Common.{◌≡◌, ◌≢◌, ◌↔◌, inl, inr, ⊎_elim, ℕ, zero, suc, ◌+◌, ◌≤◌, max, Bool, true, false, if◌then◌else◌, nat_le, List, [], ◌∷◌, ◌++◌, length, slice_get, Option, Some, None, Result, Ok, Err, refl, sym, ◌∙◌, ap, subst, arith, append_assoc}
use Rattle.std.specs.Int.{bit_at}
use Rattle.std.specs.List.{enumerate_from}
use Rattle.std.proofs.lemmas.Bool.{cases_lt}
use Rattle.std.proofs.lemmas.List.{append-nil}
use Rattle.la_base.specs.Naming.{find_channel}
use Rattle.text_parts.specs.Reading.{then_read, read_parts}
use Rattle.wait_cond.specs.declared.alt.Alt.{Alt}
use Rattle.cond_words.specs.declared.faults.BindWhy.TheVariants.{TooMany}
use Rattle.cond_words.specs.declared.faults.ItemFault.{ItemFault}
use Rattle.cond_words.specs.declared.words.Letter.{Letter}
use Rattle.cond_words.specs.declared.words.Letter.TheVariants.{Low, High, Rise, Fall, Edge, Steady}
use Rattle.wait_cond.specs.Meets.{Rises, Falls, LinesHold, MeetsAt}
use Rattle.cond_words.specs.Words.{Meaning, Line, Skip}
use Rattle.cond_words.specs.Binding.{Bound, On, Skips, channels, skip_of, is_pin, first_uses, pins_after, bound_as, on_channel, bind_term, mask_of, IsBound}
use Rattle.cond_words.specs.Holding.{Levels, HasLevels, HadLevels, GoesUp, GoesDown, LetterHolds, TermHolds, AllHold}
use Rattle.wait_cond.proofs.Sets.{get_front, get_last}
use Rattle.cond_words.proofs.PinLemmas.{is_pin_there}

-- a term and what it was bound to
abbrev pub BoundTo : List (List ℕ) → Meaning → Bound → Type 0
BoundTo names (Line reference letter) (On channel other) = (find_channel names reference ≡ Some channel) × (letter ≡ other)
BoundTo names (Line reference letter) (Skips number) = ⊥
BoundTo names (Skip number) (On channel letter) = ⊥
BoundTo names (Skip number) (Skips other) = number ≡ other

-- terms and what they were bound to, one by one
abbrev pub EachBound : List (List ℕ) → List Meaning → List Bound → Type 0
EachBound names [] [] = Unit {0}
EachBound names [] (bound ∷ bounds) = ⊥
EachBound names (term ∷ terms) [] = ⊥
EachBound names (term ∷ terms) (bound ∷ bounds) = BoundTo names term bound × EachBound names terms bounds

module _ (most : ℕ) (names : List (List ℕ)) (old : List ℕ) where
  bound_to : (before : List Bound) (item : ℕ) (term : Meaning) (bound : Bound) → bound_as most names old before item term ≡ Ok bound → BoundTo names term bound
  bound_to before item (Line reference letter) bound e = by (find_channel names reference) refl e
    where
      by_fit : (channel : ℕ) (b : Bool) → find_channel names reference ≡ Some channel → if◌then◌else◌ {A = Result Bound ItemFault} b (Ok (On channel letter)) (Err (record { item = item; why = TooMany })) ≡ Ok bound → BoundTo names (Line reference letter) bound
      by_fit channel true found e = let same : On channel letter ≡ bound = cc in subst (BoundTo names (Line reference letter)) same (found, refl)
      by_fit channel false found e = absurd cc

      by : (o : Option ℕ) → find_channel names reference ≡ o → on_channel most old before item letter o ≡ Ok bound → BoundTo names (Line reference letter) bound
      by (Some channel) found e = by_fit channel (nat_le (length (pins_after old (before ++ On channel letter ∷ []))) most) found e
      by None found e = absurd cc
  bound_to before item (Skip number) bound e = let same : Skips number ≡ bound = cc in subst (BoundTo names (Skip number)) same refl

  each_bound : (terms : List Meaning) (k : ℕ) (before values : List Bound) → read_parts (bind_term most names old) before (enumerate_from k terms) ≡ Ok values
      → (bounds : List Bound) × (values ≡ before ++ bounds) × EachBound names terms bounds
  each_bound [] k before values e = let same : before ≡ values = cc in ([], sym (append-nil before ∙ same), tt)
  each_bound (term ∷ terms) k before values e = by (bound_as most names old before k term) refl e (λ bound. each_bound terms (k + 1) (before ++ bound ∷ []) values)
    where
      by : (r : Result Bound ItemFault) → bound_as most names old before k term ≡ r
          → then_read r (λ bound. read_parts (bind_term most names old) (before ++ bound ∷ []) (enumerate_from (k + 1) terms)) ≡ Ok values
          → ((bound : Bound) → read_parts (bind_term most names old) (before ++ bound ∷ []) (enumerate_from (k + 1) terms) ≡ Ok values
          → (bounds : List Bound) × (values ≡ (before ++ bound ∷ []) ++ bounds) × EachBound names terms bounds)
          → (bounds : List Bound) × (values ≡ before ++ bounds) × EachBound names (term ∷ terms) bounds
      by (Ok bound) is e more = let m = more bound e in (bound ∷ m.0, m.1 ∙ append_assoc before (bound ∷ []) m.0, (bound_to before k term bound is, m.2))
      by (Err fault) is e more = absurd cc

module _ (names : List (List ℕ)) where
  -- what a term was bound to
  bound_there : (terms : List Meaning) (bounds : List Bound) (i : ℕ) (term : Meaning) → EachBound names terms bounds → slice_get terms i ≡ Some term
      → (bound : Bound) × (slice_get bounds i ≡ Some bound) × BoundTo names term bound
  bound_there [] [] i term each is = absurd cc
  bound_there [] (bound ∷ bounds) i term each is = absurd each
  bound_there (t ∷ terms) [] i term each is = absurd each
  bound_there (t ∷ terms) (bound ∷ bounds) zero term each is = let same : t ≡ term = cc in (bound, refl, subst (λ (m : Meaning). BoundTo names m bound) same each.0)
  bound_there (t ∷ terms) (bound ∷ bounds) (suc i) term each is = bound_there terms bounds i term each.1 is

  -- the term that was bound
  term_there : (terms : List Meaning) (bounds : List Bound) (i : ℕ) (bound : Bound) → EachBound names terms bounds → slice_get bounds i ≡ Some bound
      → (term : Meaning) × (slice_get terms i ≡ Some term) × BoundTo names term bound
  term_there [] [] i bound each is = absurd cc
  term_there [] (b ∷ bounds) i bound each is = absurd each
  term_there (term ∷ terms) [] i bound each is = absurd each
  term_there (term ∷ terms) (b ∷ bounds) zero bound each is = let same : b ≡ bound = cc in (term, refl, subst (BoundTo names term) same each.0)
  term_there (term ∷ terms) (b ∷ bounds) (suc i) bound each is = term_there terms bounds i bound each.1 is

-- the greatest skip is that of a term
skip_among : (bounds : List Bound) → skip_of bounds ≢ 0 → (i : ℕ) × (slice_get bounds i ≡ Some (Skips (skip_of bounds)))
skip_among [] some = absurd (some refl)
skip_among (On channel letter ∷ bounds) some = let s = skip_among bounds some in (suc s.0, s.1)
skip_among (Skips number ∷ bounds) some = elim (cases_lt number (skip_of bounds)) [
  | inl less ↦
      let greatest : max number (skip_of bounds) ≡ skip_of bounds = omega arith in
      let s = skip_among bounds (λ none. absurd (omega (arith, less, none))) in
      (suc s.0, s.1 ∙ ap (λ (n : ℕ). Some (Skips n)) (sym greatest))
  | inr least ↦
      let greatest : max number (skip_of bounds) ≡ number = omega arith in
      (0, ap (λ (n : ℕ). Some (Skips n)) (sym greatest))
]

-- no skip is greater
skip_least : (bounds : List Bound) (i number : ℕ) → slice_get bounds i ≡ Some (Skips number) → number ≤ skip_of bounds
skip_least [] i number is = absurd cc
skip_least (On channel letter ∷ bounds) zero number is = absurd cc
skip_least (On channel letter ∷ bounds) (suc i) number is = skip_least bounds i number is
skip_least (Skips n ∷ bounds) zero number is = let same : n ≡ number = cc in omega arith
skip_least (Skips n ∷ bounds) (suc i) number is = omega (arith, skip_least bounds i number is)

-- each channel of a term is a pin
used_is_pin : (pins used : List ℕ) (i channel : ℕ) → slice_get used i ≡ Some channel → (line : ℕ) × (slice_get (pins ++ first_uses pins used) line ≡ Some channel)
used_is_pin pins [] i channel is = absurd cc
used_is_pin pins (x ∷ used) zero channel is = let same : x ≡ channel = cc in subst (λ (n : ℕ). (line : ℕ) × (slice_get (pins ++ first_uses pins (x ∷ used)) line ≡ Some n)) same (by (is_pin pins x) refl)
  where
    by : (b : Bool) → is_pin pins x ≡ b → (line : ℕ) × (slice_get (pins ++ (if b then first_uses pins used else x ∷ first_uses (pins ++ x ∷ []) used)) line ≡ Some x)
    by true e = let p = is_pin_there pins x e in (p.0, get_front pins (first_uses pins used) p.0 x p.1)
    by false e = (
      length pins,
      subst (λ (l : List ℕ). slice_get l (length pins) ≡ Some x) (append_assoc pins (x ∷ []) (first_uses (pins ++ x ∷ []) used))
          (get_front (pins ++ x ∷ []) (first_uses (pins ++ x ∷ []) used) (length pins) x (get_last pins x)),
    )
used_is_pin pins (x ∷ used) (suc i) channel is = by (is_pin pins x) (used_is_pin pins used i channel is) (used_is_pin (pins ++ x ∷ []) used i channel is)
  where
    by : (b : Bool) → (line : ℕ) × (slice_get (pins ++ first_uses pins used) line ≡ Some channel)
        → (line : ℕ) × (slice_get ((pins ++ x ∷ []) ++ first_uses (pins ++ x ∷ []) used) line ≡ Some channel)
        → (line : ℕ) × (slice_get (pins ++ (if b then first_uses pins used else x ∷ first_uses (pins ++ x ∷ []) used)) line ≡ Some channel)
    by true old new = old
    by false old new = (new.0, subst (λ (l : List ℕ). slice_get l new.0 ≡ Some channel) (append_assoc pins (x ∷ []) (first_uses (pins ++ x ∷ []) used)) new.1)

channel_used : (bounds : List Bound) (i channel : ℕ) (letter : Letter) → slice_get bounds i ≡ Some (On channel letter) → (k : ℕ) × (slice_get (channels bounds) k ≡ Some channel)
channel_used [] i channel letter is = absurd cc
channel_used (On c l ∷ bounds) zero channel letter is = let same : c ≡ channel = cc in (0, ap (λ (n : ℕ). Some n) same)
channel_used (On c l ∷ bounds) (suc i) channel letter is = let u = channel_used bounds i channel letter is in (suc u.0, u.1)
channel_used (Skips n ∷ bounds) zero channel letter is = absurd cc
channel_used (Skips n ∷ bounds) (suc i) channel letter is = channel_used bounds i channel letter is

module _ (pins : List ℕ) (before : Option Levels) (now : Levels) (sample_before : Option ℕ) (sample : ℕ) (had : HadLevels pins before sample_before) (has : HasLevels pins now sample)
    (line channel : ℕ) (pin : slice_get pins line ≡ Some channel) where
  up : Rises sample_before sample line ↔ GoesUp before now channel
  up = by before sample_before had
    where
      by : (b : Option Levels) (s : Option ℕ) → HadLevels pins b s → Rises s sample line ↔ GoesUp b now channel
      by (Some levels) (Some s) h = (λ r. (sym (h line channel pin) ∙ r.0, sym (has line channel pin) ∙ r.1), λ r. (h line channel pin ∙ r.0, has line channel pin ∙ r.1))
      by (Some levels) None h = absurd h
      by None (Some s) h = absurd h
      by None None h = (λ r. r, λ r. r)

  down : Falls sample_before sample line ↔ GoesDown before now channel
  down = by before sample_before had
    where
      by : (b : Option Levels) (s : Option ℕ) → HadLevels pins b s → Falls s sample line ↔ GoesDown b now channel
      by (Some levels) (Some s) h = (λ r. (sym (h line channel pin) ∙ r.0, sym (has line channel pin) ∙ r.1), λ r. (h line channel pin ∙ r.0, has line channel pin ∙ r.1))
      by (Some levels) None h = absurd h
      by None (Some s) h = absurd h
      by None None h = (λ r. r, λ r. r)

  -- what a mask asks of a line is what the letter asks of its channel
  letter_holds : (alt : Alt) (letter : Letter) → LinesHold alt sample_before sample → bit_at (mask_of alt letter) line ≡ 1 → LetterHolds before now channel letter
  letter_holds alt Low h one = sym (has line channel pin) ∙ h.low line one
  letter_holds alt High h one = sym (has line channel pin) ∙ h.high line one
  letter_holds alt Rise h one = up.0 (h.rise line one)
  letter_holds alt Fall h one = down.0 (h.fall line one)
  letter_holds alt Edge h one = ⊎_elim (λ r. inl (up.0 r)) (λ f. inr (down.0 f)) (h.edge line one)
  letter_holds alt Steady h one = let s = h.steady line one in (λ u. s.0 (up.1 u), λ d. s.1 (down.1 d))

-- an alternative that terms are bound to is met exactly where each of them holds
pub met_where_terms_hold : (most : ℕ) (names : List (List ℕ)) (old pins : List ℕ) (terms : List Meaning) (alt : Alt) → IsBound most names old pins terms alt
    → (before : Option Levels) (now : Levels) (sample_before : Option ℕ) (sample from q : ℕ) → HadLevels pins before sample_before → HasLevels pins now sample
    → MeetsAt alt sample_before sample from q ↔ AllHold names before now from q terms
met_where_terms_hold most names old pins terms alt b before now sample_before sample from q had has = (there, back)
  where
    each : EachBound names terms b.bounds
    each = let e = each_bound most names old terms 0 [] b.bounds b.read in subst (EachBound names terms) (sym e.1) e.2

    pinned : (i channel : ℕ) (letter : Letter) → slice_get b.bounds i ≡ Some (On channel letter) → (line : ℕ) × (slice_get pins line ≡ Some channel)
    pinned i channel letter is =
        let u = channel_used b.bounds i channel letter is in
        let p = used_is_pin old (channels b.bounds) u.0 channel u.1 in
        (p.0, subst (λ (l : List ℕ). slice_get l p.0 ≡ Some channel) (sym b.pins) p.1)

    there : MeetsAt alt sample_before sample from q → AllHold names before now from q terms
    there m i term is = let t = bound_there names terms b.bounds i term each is in by term t.0 t.1 t.2
      where
        by : (t : Meaning) (bound : Bound) → slice_get b.bounds i ≡ Some bound → BoundTo names t bound → TermHolds names before now from q t
        by (Line reference letter) (On channel other) at to =
            let p = pinned i channel other at in
            let one = (b.asks.masks other).all p.0 (record { channel = channel; pin = p.1; term = i; asks = at }) in
            (channel, to.0, subst (LetterHolds before now channel) (sym to.1) (letter_holds pins before now sample_before sample had has p.0 channel p.1 alt other m.lines one))
        by (Line reference letter) (Skips number) at to = absurd to
        by (Skip number) (On channel letter) at to = absurd to
        by (Skip number) (Skips other) at to = λ some.
            let least = skip_least b.bounds i other at in
            let skip = b.asks.skip_is in
            let far = m.skipped (λ none. absurd (omega (arith, some, none, least, skip, to))) in
            omega (arith, far, least, skip, to)

    back : AllHold names before now from q terms → MeetsAt alt sample_before sample from q
    back all = record {
      lines = record {
        low = λ line one. let h = held Low line one in has line h.0 h.1 ∙ h.2;
        high = λ line one. let h = held High line one in has line h.0 h.1 ∙ h.2;
        rise = λ line one. let h = held Rise line one in (up pins before now sample_before sample had has line h.0 h.1).1 h.2;
        fall = λ line one. let h = held Fall line one in (down pins before now sample_before sample had has line h.0 h.1).1 h.2;
        edge = λ line one. let h = held Edge line one in ⊎_elim (λ u. inl ((up pins before now sample_before sample had has line h.0 h.1).1 u)) (λ d. inr ((down pins before now sample_before sample had has line h.0 h.1).1 d)) h.2;
        steady = λ line one. let h = held Steady line one in
            (λ r. h.2.0 ((up pins before now sample_before sample had has line h.0 h.1).0 r), λ f. h.2.1 ((down pins before now sample_before sample had has line h.0 h.1).0 f));
      };
      skipped = λ some. let s = skip_among b.bounds (λ none. some (b.asks.skip_is ∙ none)) in
          let t = term_there names terms b.bounds s.0 (Skips (skip_of b.bounds)) each s.1 in
          far some s.0 t.0 t.1 t.2;
    }
      where
        held_by : (letter : Letter) (i channel : ℕ) (t : Meaning) → slice_get terms i ≡ Some t → BoundTo names t (On channel letter) → LetterHolds before now channel letter
        held_by letter i channel (Line reference other) is to =
            let h = all i (Line reference other) is in
            let same : h.0 ≡ channel = cc (h.1, to.0) in
            subst (λ (n : ℕ). LetterHolds before now n letter) same (subst (LetterHolds before now h.0) to.1 h.2)
        held_by letter i channel (Skip number) is to = absurd to

        held : (letter : Letter) (line : ℕ) → bit_at (mask_of alt letter) line ≡ 1 → (channel : ℕ) × (slice_get pins line ≡ Some channel) × LetterHolds before now channel letter
        held letter line one =
            let a = (b.asks.masks letter).each line one in
            let t = term_there names terms b.bounds a.term (On a.channel letter) each a.asks in
            (a.channel, a.pin, held_by letter a.term a.channel t.0 t.1 t.2)

        far : alt.skip ≢ 0 → (i : ℕ) (t : Meaning) → slice_get terms i ≡ Some t → BoundTo names t (Skips (skip_of b.bounds)) → from + alt.skip ≤ q + 1
        far some i (Line reference letter) is to = absurd to
        far some i (Skip number) is to =
            let h = all i (Skip number) is in
            let skip = b.asks.skip_is in
            let enough = h (λ none. some (skip ∙ sym to ∙ none)) in
            omega (arith, enough, skip, to)
