-- What is kept of the words of a section says as much as they do.
use Rattle.std.proofs.Common.{◌≡◌, ℕ, zero, suc, ◌<◌, ◌≤◌, ◌⊎◌, inl, inr, ◌-◌, ◌&&◌, ◌==◌, nat_le, not, get_or, slice_set, List, [], ◌∷◌, ◌++◌, map, length, take, drop, refl, sym, ◌∙◌, ap, arith, append_assoc, length-append, length-drop, Bool, true, false, cond, Option, None, Result, Ok, Err, codes}
use Rattle.std.proofs.lemmas.Bool.{cond-true, cond-false, false≢true}
use Rattle.std.proofs.lemmas.List.{append-nil, length-take-le, take_all}
use Rattle.std.proofs.lemmas.Slice.Eq.{bytes_eq-Decides}
use Rattle.la_base.specs.Naming.{same_name}
use Rattle.la_io.specs.declared.fault.CaptureFault.{CaptureFault}
use Rattle.la_io.specs.declared.fault.CaptureFault.TheVariants.{Token}
use Rattle.la_base.specs.Naming.{number_after}
use Rattle.text_parts.specs.Numbers.{is_number}
use Rattle.text_parts.specs.Places.{Placed}
use Rattle.capture_vcd.specs.Header.{Declared, Nothing, a_second, bit_names, declare, first_at, has_no_channel, is_code, joined, scale_by, scale_of, variable_of}
use Rattle.capture_vcd.specs.Gathered.{placed}
use Rattle.capture_vcd.specs.declared.section.Word.{Word}
use Rattle.capture_vcd.specs.Keeping.{IsShort, joins, scale_step, scale_words, variable_step, variable_words}

joined_more : (words : List Placed) (word : Placed) → joined (words ++ word ∷ []) ≡ joined words ++ word.1
joined_more [] word = append-nil word.1
joined_more (w ∷ words) word = ap (λ (l : List ℕ). w.1 ++ l) (joined_more words word) ∙ sym (append_assoc w.1 (joined words) word.1)

take_more : (n : ℕ) (a b : List ℕ) → take n (take n a ++ b) ≡ take n (a ++ b)
take_more zero a b = refl
take_more (suc n) [] b = refl
take_more (suc n) (x ∷ a) b = ap (λ (l : List ℕ). x ∷ l) (take_more n a b)

-- a time scale
pub scale_more : (told : List Placed) (word : Placed) → scale_words (told ++ word ∷ []) ≡ scale_step (scale_words told) word
scale_more [] word = ap (λ (l : List ℕ). (word.0, take 6 l) ∷ []) (append-nil word.1)
scale_more (w ∷ told) word = ap (λ (l : List ℕ). (w.0, l) ∷ []) (ap (λ (l : List ℕ). take 6 l) (joined_more (w ∷ told) word) ∙ sym (take_more 6 (joined (w ∷ told)) word.1))

pub scale_first : (end_at : ℕ) (told : List Placed) → first_at end_at (scale_words told) ≡ first_at end_at told
scale_first end_at [] = refl
scale_first end_at (w ∷ told) = refl

other_unit : (name unit : List ℕ) → length name < 3 → 3 ≤ length unit → same_name name unit ≡ false
other_unit name unit short long = by_test (same_name name unit) refl where
  by_test : (t : Bool) → same_name name unit ≡ t → same_name name unit ≡ false
  by_test false e = e
  by_test true e = absurd (omega (arith, short, long, ap length ((bytes_eq-Decides name unit).0 e)))

no_unit : (unit : List ℕ) → 3 ≤ length unit → a_second unit ≡ None
no_unit unit long =
    cond-false (same_name (codes "s") unit) _ _ (other_unit (codes "s") unit (omega arith) long) ∙ cond-false (same_name (codes "ms") unit) _ _ (other_unit (codes "ms") unit (omega arith) long)
    ∙ cond-false (same_name (codes "us") unit) _ _ (other_unit (codes "us") unit (omega arith) long) ∙ cond-false (same_name (codes "ns") unit) _ _ (other_unit (codes "ns") unit (omega arith) long)
    ∙ cond-false (same_name (codes "ps") unit) _ _ (other_unit (codes "ps") unit (omega arith) long) ∙ cond-false (same_name (codes "fs") unit) _ _ (other_unit (codes "fs") unit (omega arith) long)

long_fails : (at : ℕ) (text : List ℕ) → 6 ≤ length text → scale_of at text ≡ Err (Token at)
long_fails at text long = by_count _ _ _ (a_second (drop 3 text)) (a_second (drop 2 text)) (a_second (drop 1 text))
    (no_unit (drop 3 text) (omega (arith, long, length-drop 3 text))) (no_unit (drop 2 text) (omega (arith, long, length-drop 2 text))) (no_unit (drop 1 text) (omega (arith, long, length-drop 1 text)))
  where
    by_count : (x y z : Bool) (a b c : Option ℕ) → a ≡ None → b ≡ None → c ≡ None → ◌≡◌ {A = Result Declared CaptureFault} (cond x (scale_by at 100 a) (cond y (scale_by at 10 b) (cond z (scale_by at 1 c) (Err (Token at))))) (Err (Token at))
    by_count true y z a b c na nb nc = ap (λ (o : Option ℕ). scale_by at 100 o) na
    by_count false true z a b c na nb nc = ap (λ (o : Option ℕ). scale_by at 10 o) nb
    by_count false false true a b c na nb nc = ap (λ (o : Option ℕ). scale_by at 1 o) nc
    by_count false false false a b c na nb nc = refl

scale_front : (at : ℕ) (text : List ℕ) → scale_of at (take 6 text) ≡ scale_of at text
scale_front at text = by_len (search arith) where
  by_len : (6 ≤ length text) ⊎ (length text ≤ 6) → scale_of at (take 6 text) ≡ scale_of at text
  by_len (inl long) = long_fails at (take 6 text) (omega (arith, long, length-take-le 6 text long)) ∙ sym (long_fails at text long)
  by_len (inr short) = ap (λ (l : List ℕ). scale_of at l) (take_all 6 text short)

pub scale_same : (at : ℕ) (told : List Placed) → scale_of at (joined (scale_words told)) ≡ scale_of at (joined told)
scale_same at [] = refl
scale_same at (w ∷ told) = ap (λ (l : List ℕ). scale_of at l) (append-nil (take 6 (joined (w ∷ told)))) ∙ scale_front at (joined (w ∷ told))

-- a variable
pub variable_more : (told : List Placed) (word : Placed) → variable_words (told ++ word ∷ []) ≡ variable_step (variable_words told) word
variable_more [] word = refl
variable_more (t ∷ []) word = refl
variable_more (t ∷ s ∷ []) word = refl
variable_more (t ∷ s ∷ c ∷ []) word = refl
variable_more (t ∷ s ∷ c ∷ r ∷ []) word = ap (λ (l : List ℕ). cond (joins t.1 s.1) (t ∷ s ∷ c ∷ r ∷ (word.0, l) ∷ []) (t ∷ s ∷ c ∷ r ∷ [])) (append-nil word.1)
variable_more (t ∷ s ∷ c ∷ r ∷ first ∷ more) word = by_test (joins t.1 s.1) refl where
  by_test : (b : Bool) → joins t.1 s.1 ≡ b → cond b (t ∷ s ∷ c ∷ r ∷ (first.0, joined (first ∷ more ++ word ∷ [])) ∷ []) (t ∷ s ∷ c ∷ r ∷ []) ≡ variable_step (cond b (t ∷ s ∷ c ∷ r ∷ (first.0, joined (first ∷ more)) ∷ []) (t ∷ s ∷ c ∷ r ∷ [])) word
  by_test true e = ap (λ (l : List ℕ). t ∷ s ∷ c ∷ r ∷ (first.0, l) ∷ []) (joined_more (first ∷ more) word) ∙ sym (cond-true (joins t.1 s.1) _ _ e)
  by_test false e = sym (cond-false (joins t.1 s.1) _ _ e)

pub variable_same : (at before : ℕ) (told : List Placed) → variable_of at before (variable_words told) ≡ variable_of at before told
variable_same at before [] = refl
variable_same at before (t ∷ []) = refl
variable_same at before (t ∷ s ∷ []) = refl
variable_same at before (t ∷ s ∷ c ∷ []) = refl
variable_same at before (t ∷ s ∷ c ∷ r ∷ []) = refl
variable_same at before (t ∷ s ∷ c ∷ r ∷ first ∷ more) = by_test (joins t.1 s.1) refl where
  width : ℕ
  width = number_after 0 s.1

  -- with this text behind the reference
  with_text : List ℕ → Result Declared CaptureFault
  with_text text = cond (not (is_code c.1)) (Err (Token at)) (cond (has_no_channel t.1) (Ok Nothing) (cond (not (is_number s.1)) (Err (Token at)) (cond (not (nat_le 1 width && nat_le width 65535)) (Err (Token at))
      (cond (width == 1) (declare at before 1 (record { code = c.1; names = (r.1 ++ text) ∷ [] })) (declare at before width (record { code = c.1; names = bit_names r.1 width }))))))

  by_parts : (h n o wide coded : Bool) (name other bits : Result Declared CaptureFault) → (not h && (n && o)) ≡ false
      → ◌≡◌ {A = Result Declared CaptureFault} (cond coded (Err (Token at)) (cond h (Ok Nothing) (cond (not n) (Err (Token at)) (cond wide (Err (Token at)) (cond o name bits)))))
      (cond coded (Err (Token at)) (cond h (Ok Nothing) (cond (not n) (Err (Token at)) (cond wide (Err (Token at)) (cond o other bits)))))
  by_parts true n o wide coded name other bits e = refl
  by_parts false false o wide coded name other bits e = refl
  by_parts false true false wide coded name other bits e = refl
  by_parts false true true wide coded name other bits e = absurd (false≢true (sym e))

  by_test : (b : Bool) → joins t.1 s.1 ≡ b → variable_of at before (cond b (t ∷ s ∷ c ∷ r ∷ (first.0, joined (first ∷ more)) ∷ []) (t ∷ s ∷ c ∷ r ∷ [])) ≡ variable_of at before (t ∷ s ∷ c ∷ r ∷ first ∷ more)
  by_test true e = ap (λ (l : List ℕ). with_text l) (append-nil (joined (first ∷ more)))
  by_test false e = by_parts (has_no_channel t.1) (is_number s.1) (width == 1) _ _ _ _ _ e

-- words of the reader
after_front : (a b : List ℕ) (n : ℕ) → length a ≤ n → a ++ take (n - length a) b ≡ take n (a ++ b)
after_front [] b n few = let all : n - 0 ≡ n = omega arith in ap (λ (k : ℕ). take k b) all
after_front (x ∷ a) b zero few = absurd (omega (arith, few))
after_front (x ∷ a) b (suc n) few =
    let same : suc n - suc (length a) ≡ n - length a = omega arith in
    ap (λ (k : ℕ). x ∷ (a ++ take k b)) same ∙ ap (λ (l : List ℕ). x ∷ l) (after_front a b n (omega (arith, few)))

pub short_first : (words : List Word) (d : Word) → 0 < length words → IsShort words → length (get_or words 0 d).text.items ≤ 6
short_first [] d some short = absurd (omega (arith, some))
short_first (start ∷ rest) d some short = omega (arith, short.small, length-append start.text.items (joined (map placed rest)))

pub scale_put : (words : List Word) (new d : Word) (word : Placed) → 0 < length words → new.at ≡ (get_or words 0 d).at → length (get_or words 0 d).text.items ≤ 6
    → new.text.items ≡ (get_or words 0 d).text.items ++ take (6 - length (get_or words 0 d).text.items) word.1 → map placed (slice_set words 0 new) ≡ scale_step (map placed words) word
scale_put [] new d word some at short text = absurd (omega (arith, some))
scale_put (start ∷ rest) new d word some at short text = λ i. (at i, (text ∙ after_front start.text.items word.1 6 short) i) ∷ map placed rest

pub variable_add : (words : List Word) (a b : Word) (word : Placed) → length words ≡ 4 → joins (get_or words 0 a).text.items (get_or words 1 b).text.items ≡ true → map placed words ++ word ∷ [] ≡ variable_step (map placed words) word
variable_add [] a b word long is = absurd (omega (arith, long))
variable_add (w0 ∷ []) a b word long is = absurd (omega (arith, long))
variable_add (w0 ∷ w1 ∷ []) a b word long is = absurd (omega (arith, long))
variable_add (w0 ∷ w1 ∷ w2 ∷ []) a b word long is = absurd (omega (arith, long))
variable_add (w0 ∷ w1 ∷ w2 ∷ w3 ∷ []) a b word long is = sym (cond-true (joins w0.text.items w1.text.items) _ _ is)
variable_add (w0 ∷ w1 ∷ w2 ∷ w3 ∷ w4 ∷ rest) a b word long is = absurd (omega (arith, long))

pub variable_stays : (words : List Word) (a b : Word) (word : Placed) → 4 ≤ length words → joins (get_or words 0 a).text.items (get_or words 1 b).text.items ≡ false → map placed words ≡ variable_step (map placed words) word
variable_stays [] a b word long is = absurd (omega (arith, long))
variable_stays (w0 ∷ []) a b word long is = absurd (omega (arith, long))
variable_stays (w0 ∷ w1 ∷ []) a b word long is = absurd (omega (arith, long))
variable_stays (w0 ∷ w1 ∷ w2 ∷ []) a b word long is = absurd (omega (arith, long))
variable_stays (w0 ∷ w1 ∷ w2 ∷ w3 ∷ []) a b word long is = sym (cond-false (joins w0.text.items w1.text.items) _ _ is)
variable_stays (w0 ∷ w1 ∷ w2 ∷ w3 ∷ w4 ∷ rest) a b word long is = sym (cond-false (joins w0.text.items w1.text.items) _ _ is)

pub variable_put : (words : List Word) (new a b d : Word) (word : Placed) → 4 < length words → joins (get_or words 0 a).text.items (get_or words 1 b).text.items ≡ true → new.at ≡ (get_or words 4 d).at
    → new.text.items ≡ (get_or words 4 d).text.items ++ word.1 → map placed (slice_set words 4 new) ≡ variable_step (map placed words) word
variable_put [] new a b d word long is at text = absurd (omega (arith, long))
variable_put (w0 ∷ []) new a b d word long is at text = absurd (omega (arith, long))
variable_put (w0 ∷ w1 ∷ []) new a b d word long is at text = absurd (omega (arith, long))
variable_put (w0 ∷ w1 ∷ w2 ∷ []) new a b d word long is at text = absurd (omega (arith, long))
variable_put (w0 ∷ w1 ∷ w2 ∷ w3 ∷ []) new a b d word long is at text = absurd (omega (arith, long))
variable_put (w0 ∷ w1 ∷ w2 ∷ w3 ∷ w4 ∷ rest) new a b d word long is at text =
    (λ i. placed w0 ∷ placed w1 ∷ placed w2 ∷ placed w3 ∷ (at i, text i) ∷ map placed rest) ∙ sym (cond-true (joins w0.text.items w1.text.items) _ _ is)
