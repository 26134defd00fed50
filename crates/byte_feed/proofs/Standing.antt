-- What a reader of tokens stands for, as it goes on.
use Rattle.std.proofs.Common.{◌≡◌, ℕ, ◌+◌, ◌^◌, ◌≤◌, ◌<◌, ◌⊎◌, inl, inr, List, [], ◌∷◌, ◌++◌, take, drop, length, refl, sym, ◌∙◌, ap, arith, length-append, length-drop, length-take-le, append_assoc, take-append-drop, slice_index, Bool, true, false}
use Rattle.std.proofs.lemmas.List.{append-nil, drop_more, get_or-take, take_all, drop_all}
use Rattle.text_parts.specs.Places.{Placed}
use Rattle.la_io.specs.Capture.{Ending, Clean}
use Rattle.la_io.specs.Intake.{Front}
use Rattle.byte_feed.specs.Parts.{Fed, behind, bytes_ending, ends}
use Rattle.byte_feed.specs.Tokens.{by_blanks, is_blank, tokens_from, tokens_of}
use Rattle.byte_feed.specs.Blanks.{AllBlank, AllPlain}
use Rattle.byte_feed.specs.Feeding.{Onward, told_of}
use Rattle.byte_feed.specs.Reader.{StandsAt, place}
use Rattle.byte_feed.proofs.Giving.{at_end, few_on, onward_end, onward_step, whole_taken}
use Rattle.byte_feed.proofs.PartLaws.{behind_on, last_one, no_part}
use Rattle.byte_feed.proofs.TokenLaws.{one_token, skip_all}

-- nothing was taken
pub stands_new : (front : Front) → front ≡ record { bytes = []; taken = 0 } → StandsAt front 0 false [] []
stands_new front is = record {
  taken = ap (λ (f : Front). f.taken) is;
  fits = omega (arith, ap (λ (f : Front). length f.bytes) is);
  few = λ e. cc;
  goes_on = λ more how. ap (λ (f : Front). behind [] (tokens_from (place f 0) how (drop 0 f.bytes ++ more))) (sym is);
}

-- bytes were taken and blanks passed over
pub stands_skip : (old new : Front) (len : ℕ) (was is : Bool) (bytes x blanks : List ℕ) (given : List Placed) → len ≤ length old.bytes
    → drop len old.bytes ++ x ≡ blanks ++ new.bytes → AllBlank blanks (length blanks) → new.taken ≡ old.taken + length x → (was ≡ true → x ≡ []) → (was ≡ true → is ≡ true)
    → (is ≡ true → (was ≡ true) ⊎ (new.taken < 2 ^ 60)) → StandsAt old len was bytes given → StandsAt new 0 is (bytes ++ x) given
stands_skip old new len was is bytes x blanks given within split blank count none stays told st = record {
  taken = omega (arith, count, st.taken, length-append bytes x);
  fits = omega (arith, within, st.fits, count, ap length split, length-append (drop len old.bytes) x, length-append blanks new.bytes, length-drop len old.bytes);
  few = few_on was is bytes x old.taken new.taken count st.taken none st.few told;
  goes_on = onward_step was is _ (λ more how. tokens_from 0 how ((bytes ++ x) ++ more) ≡ behind given (tokens_from (place new 0) how (drop 0 new.bytes ++ more))) x none stays step st.goes_on;
} where
  place_is : place old len + length blanks ≡ place new 0
  place_is = omega (arith, within, st.fits, count, ap length split, length-append (drop len old.bytes) x, length-append blanks new.bytes, length-drop len old.bytes)

  step : (more : List ℕ) (how : Ending) → tokens_from 0 how (bytes ++ (x ++ more)) ≡ behind given (tokens_from (place old len) how (drop len old.bytes ++ (x ++ more)))
      → tokens_from 0 how ((bytes ++ x) ++ more) ≡ behind given (tokens_from (place new 0) how (drop 0 new.bytes ++ more))
  step more how h =
      ap (λ (l : List ℕ). tokens_from 0 how l) (append_assoc bytes x more) ∙ h
      ∙ ap (λ (l : List ℕ). behind given (tokens_from (place old len) how l)) (sym (append_assoc (drop len old.bytes) x more) ∙ ap (λ (l : List ℕ). l ++ more) split ∙ append_assoc blanks new.bytes more)
      ∙ ap (λ (f : Fed). behind given f) (skip_all (place old len) how blanks (new.bytes ++ more) blank)
      ∙ ap (λ (n : ℕ). behind given (tokens_from n how (new.bytes ++ more))) place_is

-- a token was read to its end
pub stands_token : (front : Front) (count : ℕ) (is : Bool) (bytes : List ℕ) (given : List Placed) → 0 < length front.bytes → is_blank (slice_index front.bytes 0) ≡ false
    → count < 65536 → count ≤ length front.bytes → AllPlain front.bytes count → (count < length front.bytes → is_blank (slice_index front.bytes count) ≡ true) → (count ≡ length front.bytes → is ≡ true)
    → StandsAt front 0 is bytes given → StandsAt front count is bytes (given ++ (place front 0, take count front.bytes) ∷ [])
stands_token front count is bytes given some first short within plain blank ended st = record {
  taken = st.taken;
  fits = st.fits;
  few = st.few;
  goes_on = by_place (search arith);
} where
  word : List ℕ
  word = take count front.bytes

  word_len : length word ≡ count
  word_len = length-take-le count front.bytes within

  word_plain : AllPlain word (length word)
  word_plain k less = let below : k < count = omega (arith, less, word_len) in ap is_blank (get_or-take count front.bytes k 0 below) ∙ plain k below

  some_word : (count ≡ 0) ⊎ (0 < count) → 0 < length word
  some_word (inl none) = absurd (let e : true ≡ false = sym (blank (omega arith)) ∙ ap (λ (k : ℕ). is_blank (slice_index front.bytes k)) none ∙ first in cc)
  some_word (inr some) = omega (arith, word_len, some)

  has_word : 0 < length word
  has_word = some_word (search arith)

  Q : List ℕ → Ending → Type 0
  Q more how = tokens_from 0 how (bytes ++ more) ≡ behind (given ++ (place front 0, word) ∷ []) (tokens_from (place front count) how (drop count front.bytes ++ more))

  next : place front 0 + length word ≡ place front count
  next = omega (arith, word_len)

  by_place : (count < length front.bytes) ⊎ (count ≡ length front.bytes) → Onward is Q
  by_place (inl less) =
      onward_step is is _ Q [] (λ e. refl) (λ e. e) (λ more how h.
      let b = slice_index front.bytes count in
      let rest = drop (count + 1) front.bytes in
      let behind_is : drop count front.bytes ≡ b ∷ rest = drop_more front.bytes count 0 less in
      let split : front.bytes ++ more ≡ word ++ b ∷ (rest ++ more) = ap (λ (l : List ℕ). l ++ more) (sym (take-append-drop count front.bytes) ∙ ap (λ (l : List ℕ). word ++ l) behind_is) ∙ append_assoc word (b ∷ rest) more in
      h ∙ ap (λ (l : List ℕ). behind given (tokens_from (place front 0) how l)) split
      ∙ ap (λ (f : Fed). behind given f) (one_token (place front 0) b how word (rest ++ more) has_word (omega (arith, word_len, short)) word_plain (blank less))
      ∙ behind_on given ((place front 0, word) ∷ []) _
      ∙ (λ i. behind (given ++ (place front 0, word) ∷ []) (tokens_from (next i) how (sym behind_is i ++ more)))) st.goes_on
  by_place (inr all) =
      let e = ended all in
      let is_word : word ≡ front.bytes = take_all count front.bytes (omega (arith, all)) in
      let nothing : drop count front.bytes ≡ [] = drop_all count front.bytes (omega (arith, all)) in
      onward_end is Q e (
      at_end is _ e st.goes_on
      ∙ ap (λ (l : List ℕ). behind given (tokens_from (place front 0) Clean l)) (append-nil front.bytes ∙ sym is_word)
      ∙ ap (λ (f : Fed). behind given f) (last_one by_blanks (place front 0) word has_word (omega (arith, word_len, short)) word_plain)
      ∙ behind_on given ((place front 0, word) ∷ []) (ends Clean)
      ∙ ap (λ (f : Fed). behind (given ++ (place front 0, word) ∷ []) f) (sym (no_part by_blanks (place front count) Clean))
      ∙ ap (λ (l : List ℕ). behind (given ++ (place front 0, word) ∷ []) (tokens_from (place front count) Clean (l ++ []))) (sym nothing)
      )

-- the tokens of what was taken
pub taken_are : (front : Front) (len : ℕ) (is : Bool) (bytes : List ℕ) (given : List Placed) → length bytes ≤ 2 ^ 60 → StandsAt front len is bytes given
    → tokens_of bytes (told_of is) ≡ behind given (tokens_from (place front len) (bytes_ending (length bytes) (told_of is)) (drop len front.bytes))
taken_are front len is bytes given few st =
    whole_taken (tokens_from 0) (λ how more. tokens_from (place front len) how (drop len front.bytes ++ more)) is bytes given few st.few st.goes_on
    ∙ ap (λ (l : List ℕ). behind given (tokens_from (place front len) (bytes_ending (length bytes) (told_of is)) l)) (append-nil (drop len front.bytes))

-- a byte that is no blank at the front stays there with more behind
pub first_stays : (old new y : List ℕ) → 0 < length old → new ≡ old ++ y → is_blank (slice_index old 0) ≡ false → (0 < length new) × (is_blank (slice_index new 0) ≡ false)
first_stays old new y some is first = (omega (arith, some, ap length is, length-append old y), ap (λ (l : List ℕ). is_blank (slice_index l 0)) is ∙ by_first old some first) where
  by_first : (old : List ℕ) → 0 < length old → is_blank (slice_index old 0) ≡ false → is_blank (slice_index (old ++ y) 0) ≡ false
  by_first [] some first = absurd (omega arith)
  by_first (b ∷ old) some first = first
