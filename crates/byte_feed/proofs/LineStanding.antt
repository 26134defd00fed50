-- What a reader of lines stands for, as it goes on.
use Rattle.std.proofs.Common.{◌≡◌, ℕ, ◌+◌, ◌^◌, ◌≤◌, ◌<◌, ◌⊎◌, inl, inr, List, [], ◌∷◌, ◌++◌, take, drop, length, refl, sym, ◌∙◌, ap, arith, length-append, length-take-le, append_assoc, take-append-drop, slice_index, Bool, true, false}
use Rattle.std.proofs.lemmas.List.{append-nil, drop_more, get_or-take, take_all, drop_all}
use Rattle.text_parts.specs.Places.{Placed}
use Rattle.la_io.specs.Capture.{Cut, Ending, Clean}
use Rattle.la_io.specs.Intake.{Front}
use Rattle.byte_feed.specs.Parts.{Fed, behind, bytes_ending, ends}
use Rattle.byte_feed.specs.Lines.{by_feeds, is_feed, kept, lines_behind, lines_from, lines_of, unmarked}
use Rattle.byte_feed.specs.LineMoves.{AllIn}
use Rattle.byte_feed.specs.LineReader.{LinesAt}
use Rattle.byte_feed.specs.Feeding.{Onward, told_of}
use Rattle.byte_feed.proofs.LineLaws.{behind_line, one_line}
use Rattle.byte_feed.proofs.LineMoving.{kept_append}
use Rattle.byte_feed.proofs.Marks.{none_marked}
use Rattle.byte_feed.proofs.Giving.{at_end, few_on, onward_end, onward_step, whole_taken}
use Rattle.byte_feed.proofs.PartLaws.{behind_on, last_one, no_part}

-- nothing was taken
pub lines_new : (front : Front) → front ≡ record { bytes = []; taken = 0 } → LinesAt front 0 0 false [] []
lines_new front is = record {
  taken = ap (λ (f : Front). f.taken) is;
  few = λ e. cc;
  goes_on = λ more how. ap (λ (f : Front). behind [] (lines_behind 0 how (drop 0 f.bytes ++ kept more))) (sym is);
}

-- where a line begins whose number is the next, the mark before it passed
pub record FrontAt (front : Front) (lines : ℕ) (ended : Bool) (bytes : List ℕ) (given : List Placed) : Type 0 where
  pub taken : front.taken ≡ length bytes
  pub few : ended ≡ true → length bytes < 2 ^ 60
  pub goes_on : Onward ended (λ more how. lines_behind 0 how (kept (bytes ++ more)) ≡ behind given (lines_from (lines + 1) how (front.bytes ++ kept more)))

-- the lines of what is held and comes, behind those that were given
abbrev pub HeldAs : ℕ → List ℕ → List ℕ → List Placed → List ℕ → Ending → Type 0
HeldAs lines held bytes given more how = lines_behind 0 how (kept (bytes ++ more)) ≡ behind given (lines_behind lines how (held ++ kept more))

pub held_on : (old : Front) (over lines : ℕ) (was is : Bool) (bytes x : List ℕ) (given : List Placed) → (was ≡ true → x ≡ []) → (was ≡ true → is ≡ true) → LinesAt old over lines was bytes given
    → Onward is (HeldAs lines (drop over old.bytes ++ kept x) (bytes ++ x) given)
held_on old over lines was is bytes x given nothing stays st = onward_step was is _ (HeldAs lines (drop over old.bytes ++ kept x) (bytes ++ x) given) x nothing stays step st.goes_on where
  step : (more : List ℕ) (how : Ending) → lines_behind 0 how (kept (bytes ++ (x ++ more))) ≡ behind given (lines_behind lines how (drop over old.bytes ++ kept (x ++ more))) → HeldAs lines (drop over old.bytes ++ kept x) (bytes ++ x) given more how
  step more how h =
      ap (λ (l : List ℕ). lines_behind 0 how (kept l)) (append_assoc bytes x more) ∙ h
      ∙ ap (λ (l : List ℕ). behind given (lines_behind lines how l)) (ap (λ (l : List ℕ). drop over old.bytes ++ l) (kept_append x more) ∙ sym (append_assoc (drop over old.bytes) (kept x) (kept more)))

-- the line that was given was let go, and a mark passed
pub front_reached : (old new : Front) (over lines : ℕ) (was is : Bool) (bytes x : List ℕ) (given : List Placed)
    → ((more : List ℕ) → (is ≡ true → more ≡ []) → unmarked lines ((drop over old.bytes ++ kept x) ++ more) ≡ new.bytes ++ more) → new.taken ≡ old.taken + length x → (was ≡ true → x ≡ []) → (was ≡ true → is ≡ true)
    → (is ≡ true → (was ≡ true) ⊎ (new.taken < 2 ^ 60)) → LinesAt old over lines was bytes given → FrontAt new lines is (bytes ++ x) given
front_reached old new over lines was is bytes x given passed count nothing stays told st = record {
  taken = omega (arith, count, st.taken, length-append bytes x);
  few = few_on was is bytes x old.taken new.taken count st.taken nothing st.few told;
  goes_on = by_end is refl (held_on old over lines was is bytes x given nothing stays st);
} where
  Mid : List ℕ → Ending → Type 0
  Mid more how = HeldAs lines (drop over old.bytes ++ kept x) (bytes ++ x) given more how

  Q : List ℕ → Ending → Type 0
  Q more how = lines_behind 0 how (kept ((bytes ++ x) ++ more)) ≡ behind given (lines_from (lines + 1) how (new.bytes ++ kept more))

  pass : (more : List ℕ) (how : Ending) → (is ≡ true → kept more ≡ []) → Mid more how → Q more how
  pass more how e h = h ∙ ap (λ (l : List ℕ). behind given (lines_from (lines + 1) how l)) (passed (kept more) e)

  by_end : (b : Bool) → is ≡ b → Onward b Mid → Onward b Q
  by_end true e h = pass [] Clean (λ i. refl) h
  by_end false e h = λ more how. pass more how (λ i. absurd (let bad : true ≡ false = sym i ∙ e in cc)) (h more how)

-- more bytes came behind it
pub front_more : (old new : Front) (lines : ℕ) (was is : Bool) (bytes x : List ℕ) (given : List Placed) → new.bytes ≡ old.bytes ++ kept x → new.taken ≡ old.taken + length x → (was ≡ true → x ≡ []) → (was ≡ true → is ≡ true)
    → (is ≡ true → (was ≡ true) ⊎ (new.taken < 2 ^ 60)) → FrontAt old lines was bytes given → FrontAt new lines is (bytes ++ x) given
front_more old new lines was is bytes x given held count nothing stays told st = record {
  taken = omega (arith, count, st.taken, length-append bytes x);
  few = few_on was is bytes x old.taken new.taken count st.taken nothing st.few told;
  goes_on = onward_step was is _ (λ more how. lines_behind 0 how (kept ((bytes ++ x) ++ more)) ≡ behind given (lines_from (lines + 1) how (new.bytes ++ kept more))) x nothing stays step st.goes_on;
} where
  step : (more : List ℕ) (how : Ending) → lines_behind 0 how (kept (bytes ++ (x ++ more))) ≡ behind given (lines_from (lines + 1) how (old.bytes ++ kept (x ++ more)))
      → lines_behind 0 how (kept ((bytes ++ x) ++ more)) ≡ behind given (lines_from (lines + 1) how (new.bytes ++ kept more))
  step more how h =
      ap (λ (l : List ℕ). lines_behind 0 how (kept l)) (append_assoc bytes x more) ∙ h
      ∙ ap (λ (l : List ℕ). behind given (lines_from (lines + 1) how l)) (ap (λ (l : List ℕ). old.bytes ++ l) (kept_append x more) ∙ sym (append_assoc old.bytes (kept x) (kept more)) ∙ ap (λ (l : List ℕ). l ++ kept more) (sym held))

-- a line was read to its end
pub lines_next : (front : Front) (count over lines : ℕ) (is : Bool) (bytes : List ℕ) (given : List Placed) → 0 < length front.bytes
    → count < 65536 → count ≤ length front.bytes → AllIn front.bytes count → (count < length front.bytes → is_feed (slice_index front.bytes count) ≡ true) → (count ≡ length front.bytes → is ≡ true)
    → (count < length front.bytes → over ≡ count + 1) → (count ≡ length front.bytes → over ≡ count)
    → FrontAt front lines is bytes given → LinesAt front over (lines + 1) is bytes (given ++ (lines + 1, take count front.bytes) ∷ [])
lines_next front count over lines is bytes given some short within one feed ended behind_feed at_last st = record {
  taken = st.taken;
  few = st.few;
  goes_on = by_place (search arith);
} where
  word : List ℕ
  word = take count front.bytes

  word_len : length word ≡ count
  word_len = length-take-le count front.bytes within

  word_one : AllIn word (length word)
  word_one k less = let below : k < count = omega (arith, less, word_len) in ap is_feed (get_or-take count front.bytes k 0 below) ∙ one k below

  item : Placed
  item = (lines + 1, word)

  Q : List ℕ → Ending → Type 0
  Q more how = lines_behind 0 how (kept (bytes ++ more)) ≡ behind (given ++ item ∷ []) (lines_behind (lines + 1) how (drop over front.bytes ++ kept more))

  by_place : (count < length front.bytes) ⊎ (count ≡ length front.bytes) → Onward is Q
  by_place (inl less) =
      onward_step is is _ Q [] (λ e. refl) (λ e. e) (λ more how h.
      let b = slice_index front.bytes count in
      let rest = drop (count + 1) front.bytes in
      let behind_is : drop count front.bytes ≡ b ∷ rest = drop_more front.bytes count 0 less in
      let split : front.bytes ++ kept more ≡ word ++ b ∷ (rest ++ kept more) = ap (λ (l : List ℕ). l ++ kept more) (sym (take-append-drop count front.bytes) ∙ ap (λ (l : List ℕ). word ++ l) behind_is) ∙ append_assoc word (b ∷ rest) (kept more) in
      h ∙ ap (λ (l : List ℕ). behind given (lines_from (lines + 1) how l)) split
      ∙ ap (λ (f : Fed). behind given f) (one_line (lines + 1) b how word (rest ++ kept more) (omega (arith, word_len, short)) word_one (feed less))
      ∙ behind_on given (item ∷ []) _
      ∙ ap (λ (f : Fed). behind (given ++ item ∷ []) f) (sym (behind_line lines how (rest ++ kept more)) ∙ ap (λ (n : ℕ). lines_behind (lines + 1) how (drop n front.bytes ++ kept more)) (sym (behind_feed less)))) st.goes_on
  by_place (inr all) =
      let e = ended all in
      let is_word : word ≡ front.bytes = take_all count front.bytes (omega (arith, all)) in
      let nothing : drop over front.bytes ≡ [] = drop_all over front.bytes (omega (arith, all, at_last all)) in
      onward_end is Q e (
      at_end _ _ e st.goes_on
      ∙ ap (λ (l : List ℕ). behind given (lines_from (lines + 1) Clean l)) (append-nil front.bytes ∙ sym is_word)
      ∙ ap (λ (f : Fed). behind given f) (last_one by_feeds (lines + 1) word (omega (arith, word_len, all, some)) (omega (arith, word_len, short)) word_one)
      ∙ behind_on given (item ∷ []) (ends Clean)
      ∙ ap (λ (f : Fed). behind (given ++ item ∷ []) f) (sym (behind_line lines Clean (drop over front.bytes ++ []) ∙ ap (λ (l : List ℕ). lines_from (lines + 1 + 1) Clean (l ++ [])) nothing ∙ no_part by_feeds (lines + 1 + 1) Clean))
      )

-- the end came, and nothing is held
pub lines_end : (front : Front) (lines : ℕ) (is : Bool) (bytes : List ℕ) (given : List Placed) → is ≡ true → front.bytes ≡ [] → FrontAt front lines is bytes given → LinesAt front 0 lines is bytes given
lines_end front lines is bytes given e nothing st = record {
  taken = st.taken;
  few = st.few;
  goes_on = onward_end is _ e (at_end _ _ e st.goes_on ∙ ap (λ (l : List ℕ). behind given (lines_from (lines + 1) Clean (l ++ []))) nothing
      ∙ ap (λ (l : List ℕ). behind given (lines_from (lines + 1) Clean l)) (sym (none_marked lines)) ∙ ap (λ (l : List ℕ). behind given (lines_behind lines Clean (l ++ []))) (sym nothing));
}

-- how bytes that end in a way give lines
abbrev pub whole_lines : Ending → List ℕ → Fed
whole_lines how bytes = lines_behind 0 how (kept bytes)

-- the lines of what was taken
pub lines_are : (front : Front) (lines : ℕ) (is : Bool) (bytes : List ℕ) (given : List Placed) → length bytes ≤ 2 ^ 60 → FrontAt front lines is bytes given
    → lines_of bytes (told_of is) ≡ behind given (lines_from (lines + 1) (bytes_ending (length bytes) (told_of is)) front.bytes)
lines_are front lines is bytes given few st =
    whole_taken whole_lines (λ how more. lines_from (lines + 1) how (front.bytes ++ kept more)) is bytes given few st.few st.goes_on
    ∙ ap (λ (l : List ℕ). behind given (lines_from (lines + 1) (bytes_ending (length bytes) (told_of is)) l)) (append-nil front.bytes)

-- and so it is where the reading stopped before a mark could be told
pub lines_stopped : (front : Front) (lines : ℕ) (all bytes : List ℕ) (given : List Placed) (is : Bool) → length bytes ≤ 2 ^ 60 → is ≡ false → Onward is (HeldAs lines all bytes given) → unmarked lines all ≡ all → front.bytes ≡ all
    → lines_of bytes (told_of is) ≡ behind given (lines_from (lines + 1) (bytes_ending (length bytes) (told_of is)) front.bytes)
lines_stopped front lines all bytes given true few e h same held = absurd cc e
lines_stopped front lines all bytes given false few e h same held =
    let how = bytes_ending (length bytes) Cut in
    ap (λ (l : List ℕ). lines_behind 0 how (kept l)) (take_all (2 ^ 60) bytes few ∙ sym (append-nil bytes)) ∙ h [] how
    ∙ ap (λ (l : List ℕ). behind given (lines_from (lines + 1) how l)) (ap (λ (l : List ℕ). unmarked lines l) (append-nil all) ∙ same ∙ sym held)

-- the lines that were given are the first of those of what was taken
pub lines_first : (front : Front) (over lines : ℕ) (is : Bool) (bytes : List ℕ) (given : List Placed) → length bytes ≤ 2 ^ 60 → LinesAt front over lines is bytes given → (rest : Fed) × (lines_of bytes (told_of is) ≡ behind given rest)
lines_first front over lines is bytes given few st =
    (lines_behind lines (bytes_ending (length bytes) (told_of is)) (drop over front.bytes ++ []), whole_taken whole_lines (λ how more. lines_behind lines how (drop over front.bytes ++ kept more)) is bytes given few st.few st.goes_on)
