-- What a reader of parts has given and what is left, as it goes on, and what the parts are where it ends.
use Rattle.std.proofs.Common.{◌≡◌, ℕ, ◌+◌, ◌^◌, ◌≤◌, ◌<◌, ◌⊎◌, inl, inr, List, [], ◌++◌, take, drop, length, refl, sym, ◌∙◌, ap, subst, arith, length-append, length-take-le, take-append-drop, Option, Bool, true, false}
use Rattle.std.proofs.lemmas.List.{append-nil, get_or-take, take_all}
use Rattle.std.specs.Io.KnownBytes.{IsAtEnd}
use Rattle.text_parts.specs.Places.{Placed}
use Rattle.la_io.specs.declared.fault.CaptureFault.TheVariants as fault
use Rattle.la_io.specs.Capture.{Told, AtEnd, Cut, Ending, Clean, Faulty, Open}
use Rattle.byte_feed.specs.Feeding.{Onward, told_of}
use Rattle.byte_feed.specs.Parts.{Cutting, Fed, NoneEnds, behind, bytes_ending, ends, parts_from}
use Rattle.byte_feed.proofs.PartLaws.{behind_end, cut_part, ending_full, ending_short, full_part, long_part, no_part}

-- what goes on stays so with the end told
pub onward_told : (was is : Bool) (P : List ℕ → Ending → Type 0) → (was ≡ true → is ≡ true) → Onward was P → Onward is P
onward_told true true P stays h = h
onward_told true false P stays h = absurd cc (stays refl)
onward_told false true P stays h = h [] Clean
onward_told false false P stays h = h

pub onward_end : (is : Bool) (P : List ℕ → Ending → Type 0) → is ≡ true → P [] Clean → Onward is P
onward_end true P e h = h
onward_end false P e h = absurd cc

pub at_end : (is : Bool) (P : List ℕ → Ending → Type 0) → is ≡ true → Onward is P → P [] Clean
at_end true P e h = h
at_end false P e h = absurd cc

-- bytes were taken, none where the end was told
pub onward_step : (was is : Bool) (P Q : List ℕ → Ending → Type 0) (x : List ℕ) → (was ≡ true → x ≡ []) → (was ≡ true → is ≡ true) → ((more : List ℕ) (how : Ending) → P (x ++ more) how → Q more how)
    → Onward was P → Onward is Q
onward_step true true P Q x none stays f h = f [] Clean (subst (λ (l : List ℕ). P l Clean) (sym (append-nil x ∙ none refl)) h)
onward_step true false P Q x none stays f h = let e = stays refl in absurd cc
onward_step false true P Q x none stays f h = f [] Clean (h (x ++ []) Clean)
onward_step false false P Q x none stays f h = λ more how. f more how (h (x ++ more) how)

-- bytes of which few were taken still are few where more come, none behind the end
pub few_on : (was is : Bool) (bytes x : List ℕ) (old new : ℕ) → new ≡ old + length x → old ≡ length bytes → (was ≡ true → x ≡ []) → (was ≡ true → length bytes < 2 ^ 60) → (is ≡ true → (was ≡ true) ⊎ (new < 2 ^ 60)) → is ≡ true → length (bytes ++ x) < 2 ^ 60
few_on was is bytes x old new count at nothing few told e = by_told (told e) where
  by_told : (was ≡ true) ⊎ (new < 2 ^ 60) → length (bytes ++ x) < 2 ^ 60
  by_told (inl e) = omega (arith, few e, length-append bytes x, ap length (nothing e))
  by_told (inr less) = omega (arith, less, count, at, length-append bytes x)

-- the end that was told before, or in this call
pub told_left : (was is : Bool) (l n : Option (List ℕ)) (taken : ℕ) → (was ≡ true → n ≡ l) → (is ≡ true → (was ≡ true) ⊎ (IsAtEnd n × (taken < 2 ^ 60))) → (told : Told) → told ≡ told_of was → (told ≡ AtEnd → IsAtEnd l)
    → told_of is ≡ AtEnd → IsAtEnd n
told_left was true l n taken kept told_in told told_is at e = by_told (told_in refl) where
  by_told : (was ≡ true) ⊎ (IsAtEnd n × (taken < 2 ^ 60)) → IsAtEnd n
  by_told (inl w) = subst IsAtEnd (sym (kept w)) (at (told_is ∙ ap told_of w))
  by_told (inr now) = now.0
told_left was false l n taken kept told_in told told_is at e = cc

pub told_less : (was is : Bool) (n : Option (List ℕ)) (taken : ℕ) → (is ≡ true → (was ≡ true) ⊎ (IsAtEnd n × (taken < 2 ^ 60))) → is ≡ true → (was ≡ true) ⊎ (taken < 2 ^ 60)
told_less was is n taken told_in e = by_told (told_in e) where
  by_told : (was ≡ true) ⊎ (IsAtEnd n × (taken < 2 ^ 60)) → (was ≡ true) ⊎ (taken < 2 ^ 60)
  by_told (inl w) = inl w
  by_told (inr now) = inr now.1

-- `whole` tells the parts of bytes that end in a way, and a reader stops behind 2^60 of them
abbrev pub WholeOf : (Ending → List ℕ → Fed) → List ℕ → Told → Fed
WholeOf whole bytes told = whole (bytes_ending (length bytes) told) (take (2 ^ 60) bytes)

-- the parts of what was taken, where nothing more comes
pub whole_taken : (whole left : Ending → List ℕ → Fed) (is : Bool) (bytes : List ℕ) (given : List Placed) → length bytes ≤ 2 ^ 60 → (is ≡ true → length bytes < 2 ^ 60)
    → Onward is (λ more how. whole how (bytes ++ more) ≡ behind given (left how more))
    → WholeOf whole bytes (told_of is) ≡ behind given (left (bytes_ending (length bytes) (told_of is)) [])
whole_taken whole left is bytes given few short goes_on = ap (λ (l : List ℕ). whole (bytes_ending (length bytes) (told_of is)) l) (take_all (2 ^ 60) bytes few ∙ sym (append-nil bytes)) ∙ by_told is short goes_on where
  Same : Ending → Type 0
  Same how = whole how (bytes ++ []) ≡ behind given (left how [])

  by_told : (is : Bool) → (is ≡ true → length bytes < 2 ^ 60) → Onward is (λ more how. whole how (bytes ++ more) ≡ behind given (left how more)) → Same (bytes_ending (length bytes) (told_of is))
  by_told true short h = subst Same (sym (ending_short (length bytes) AtEnd (short refl))) h
  by_told false short h = h [] (bytes_ending (length bytes) Cut)

-- where what is held is all that is left of the bytes
module _ (cut : Cutting) (whole : Ending → List ℕ → Fed) (mark : ℕ) (held : List ℕ) (is : Bool) (bytes : List ℕ) (given : List Placed)
    (now : WholeOf whole bytes (told_of is) ≡ behind given (parts_from cut mark (bytes_ending (length bytes) (told_of is)) held)) where
  -- these bytes are left, and with this ending they give this
  gives : (told : Told) (how other : Ending) (left : List ℕ) → told_of is ≡ told → bytes_ending (length bytes) told ≡ how → held ≡ left → parts_from cut mark how left ≡ ends other
      → WholeOf whole bytes told ≡ record { items = given; ending = other }
  gives told how other left told_is how_is left_is law =
      ap (λ (t : Told). WholeOf whole bytes t) (sym told_is) ∙ now
      ∙ (λ i. behind given (parts_from cut mark (bytes_ending (length bytes) (told_is i)) (left_is i)))
      ∙ ap (λ (h : Ending). behind given (parts_from cut mark h left)) how_is ∙ ap (λ (f : Fed). behind given f) law ∙ behind_end given other

  pub gives_none : is ≡ true → length bytes < 2 ^ 60 → held ≡ [] → WholeOf whole bytes AtEnd ≡ record { items = given; ending = Clean }
  gives_none e short none = gives AtEnd Clean Clean [] (ap told_of e) (ending_short (length bytes) AtEnd short) none (no_part cut mark Clean)

  pub gives_read : is ≡ false → length bytes < 2 ^ 60 → length held < 65536 → NoneEnds cut held (length held) → WholeOf whole bytes Cut ≡ record { items = given; ending = Open }
  gives_read e below short plain = gives Cut Open Open held (ap told_of e) (ending_short (length bytes) Cut below) refl (cut_part cut mark held short plain)

  pub gives_full : is ≡ false → 2 ^ 60 ≤ length bytes → length held < 65536 → NoneEnds cut held (length held) → WholeOf whole bytes Cut ≡ record { items = given; ending = Faulty fault.Bytes }
  gives_full e full short plain = gives Cut (Faulty fault.Bytes) (Faulty fault.Bytes) held (ap told_of e) (ending_full (length bytes) Cut full) refl (full_part cut mark held fault.Bytes short plain)

  pub gives_long : (at : ℕ) → at ≡ mark → 65536 ≤ length held → NoneEnds cut held 65536 → WholeOf whole bytes (told_of is) ≡ record { items = given; ending = Faulty (fault.TooLong at) }
  gives_long at is_at long plain =
      let how = bytes_ending (length bytes) (told_of is) in
      let word = take 65536 held in
      let word_len : length word ≡ 65536 = length-take-le 65536 held long in
      gives (told_of is) how (Faulty (fault.TooLong at)) (word ++ drop 65536 held) refl refl (sym (take-append-drop 65536 held))
      (long_part cut mark how word (drop 65536 held) (omega (arith, word_len)) (λ k less. let below : k < 65536 = omega (arith, less, word_len) in ap cut.ends_part (get_or-take 65536 held k 0 below) ∙ plain k below)
      ∙ ap (λ (n : ℕ). ends (Faulty (fault.TooLong n))) (sym is_at))
