-- Where bytes can be cut so that they have their first lines alone.
use Rattle.std.proofs.Common.{◌≡◌, ℕ, zero, suc, ◌+◌, ◌-◌, ◌^◌, ◌==◌, ◌≤◌, ◌<◌, ◌⊎◌, inl, inr, nat_eq, not, List, [], ◌∷◌, ◌++◌, take, length, refl, sym, ◌∙◌, ap, subst, arith, length-append, append_assoc, slice_index, Bool, true, false, cond, ◌&&◌}
use Rattle.std.proofs.lemmas.Bool.{cond-true, cond-false, eqb-true, false≢true}
use Rattle.std.proofs.lemmas.List.{append_cancel_right, get_or_at, take_all, take_at}
use Rattle.std.specs.List.{starts_with}
use Rattle.text_parts.specs.Places.{Placed}
use Rattle.la_io.specs.declared.fault.CaptureFault.TheVariants.{TooLong}
use Rattle.la_io.specs.Capture.{Cut, Ending, Clean, Faulty, Open}
use Rattle.byte_feed.specs.Parts.{Fed, behind, bytes_ending, ends, is_long, last_part, marked_from, parts_from, parts_in}
use Rattle.byte_feed.specs.Lines.{by_feeds, is_feed, kept, lines_behind, lines_from, lines_of, mark, without_mark}
use Rattle.byte_feed.specs.Laws.{LinesCanBeCut}
use Rattle.byte_feed.specs.LineMoves.{AllIn}
use Rattle.byte_feed.proofs.LineLaws.{one_line}
use Rattle.byte_feed.proofs.LineMoving.{kept_len}
use Rattle.byte_feed.proofs.Marks.{MarkFront, front_in, front_or_settled}
use Rattle.byte_feed.proofs.PartLaws.{ending_short, long_part, no_part, split_alone}

-- the first line feed
First : List ℕ → Type 0
First bytes = ((word : List ℕ) × (rest : List ℕ) × (bytes ≡ word ++ 10 ∷ rest) × AllIn word (length word)) ⊎ AllIn bytes (length bytes)

in_cons : (b : ℕ) (word : List ℕ) → is_feed b ≡ false → AllIn word (length word) → AllIn (b ∷ word) (length (b ∷ word))
in_cons b word other one zero less = other
in_cons b word other one (suc k) less = one k (omega (arith, less))

first_feed : (bytes : List ℕ) → First bytes
unfolding First
first_feed [] = inr (λ k less. absurd (omega (arith, less)))
first_feed (b ∷ bytes) = by_test (is_feed b) refl (first_feed bytes) where
  by_rest : is_feed b ≡ false → First bytes → First (b ∷ bytes)
  by_rest e (inl one) = inl (b ∷ one.0, one.1, ap (λ (l : List ℕ). b ∷ l) one.2, in_cons b one.0 e one.3)
  by_rest e (inr all) = inr (in_cons b bytes e all)

  by_test : (t : Bool) → is_feed b ≡ t → First bytes → First (b ∷ bytes)
  by_test true e rest = inl ([], bytes, ap (λ (n : ℕ). n ∷ bytes) (eqb-true b 10 e), λ k less. absurd (omega (arith, less)))
  by_test false e rest = by_rest e rest

last_few : (how : Ending) (part : Placed) → length (last_part how part).items ≤ 1
last_few Clean part = by_tests (is_long part.1) (length part.1 == 0) where
  by_tests : (long empty : Bool) → length (cond long (ends (Faulty (TooLong part.0))) (cond empty (ends Clean) (behind (part ∷ []) (ends Clean)))).items ≤ 1
  by_tests true empty = omega arith
  by_tests false true = omega arith
  by_tests false false = omega arith
last_few (Faulty f) part = by_test (is_long part.1) where
  by_test : (long : Bool) → length (cond long (ends (Faulty (TooLong part.0))) (ends (Faulty f))).items ≤ 1
  by_test true = omega arith
  by_test false = omega arith
last_few Open part = by_test (is_long part.1) where
  by_test : (long : Bool) → length (cond long (ends (Faulty (TooLong part.0))) (ends Open)).items ≤ 1
  by_test true = omega arith
  by_test false = omega arith

alone_few : (number : ℕ) (how : Ending) (word : List ℕ) → AllIn word (length word) → length (lines_from number how word).items ≤ 1
unfolding parts_from
alone_few number how word one = subst (λ (l : List (List ℕ)). length (parts_in true how (marked_from by_feeds.next number l)).items ≤ 1) (sym (split_alone by_feeds word one)) (last_few how (number, word))

-- these lines end with a line feed, and something comes behind it
Parts : ℕ → List ℕ → List Placed → Type 0
Parts number bytes items = (x : List ℕ) × (y : List ℕ) × (bytes ≡ (x ++ 10 ∷ []) ++ y) × (0 < length y) × (lines_from number Open (x ++ 10 ∷ []) ≡ record { items = items; ending = Open })

tail_of : {x y : Placed} {xs ys : List Placed} → x ∷ xs ≡ y ∷ ys → xs ≡ ys
tail_of e = cc

head_of : {x y : Placed} {xs ys : List Placed} → x ∷ xs ≡ y ∷ ys → x ≡ y
head_of e = cc

-- the first of some lines
record Line (number : ℕ) (how : Ending) (bytes : List ℕ) (first : Placed) (items : List Placed) (rest : Fed) : Type 0 where
  word : List ℕ
  next : List ℕ
  bytes_are : bytes ≡ word ++ 10 ∷ next
  one : AllIn word (length word)
  short : length word < 65536
  first_is : (number, word) ≡ first
  more : lines_from (number + 1) how next ≡ behind items rest

first_line : (number : ℕ) (how : Ending) (bytes : List ℕ) (first : Placed) (items : List Placed) (rest : Fed) → 0 < length items → lines_from number how bytes ≡ behind (first ∷ items) rest → Line number how bytes first items rest
unfolding First
first_line number how bytes first items rest some is = by_first (first_feed bytes) where
  many : 2 ≤ length (lines_from number how bytes).items
  many = omega (arith, ap (λ (f : Fed). length f.items) is, length-append items rest.items, some)

  by_first : First bytes → Line number how bytes first items rest
  by_first (inr all) = absurd (omega (arith, many, alone_few number how bytes all))
  by_first (inl found) = by_length (search arith) where
    by_length : (length found.0 < 65536) ⊎ (65536 ≤ length found.0) → Line number how bytes first items rest
    by_length (inr long) =
        let none = ap (λ (l : List ℕ). lines_from number how l) found.2 ∙ long_part by_feeds number how found.0 (10 ∷ found.1) long found.3 in
        absurd (omega (arith, many, ap (λ (f : Fed). length f.items) none))
    by_length (inl less) =
        let line : lines_from number how bytes ≡ behind ((number, found.0) ∷ []) (lines_from (number + 1) how found.1) = ap (λ (l : List ℕ). lines_from number how l) found.2 ∙ one_line number 10 how found.0 found.1 less found.3 refl in
        let same : behind ((number, found.0) ∷ []) (lines_from (number + 1) how found.1) ≡ behind (first ∷ items) rest = sym line ∙ is in
        let items_are : (number, found.0) ∷ (lines_from (number + 1) how found.1).items ≡ first ∷ (items ++ rest.items) = ap (λ (f : Fed). f.items) same in
        record {
          word = found.0;
          next = found.1;
          bytes_are = found.2;
          one = found.3;
          short = less;
          first_is = head_of items_are;
          more = λ i. record { items = tail_of items_are i; ending = (same i).ending };
        }

cut_lines : (number : ℕ) (how : Ending) (bytes : List ℕ) (first : Placed) (items : List Placed) (item : Placed) (rest : Fed) → lines_from number how bytes ≡ behind (first ∷ (items ++ item ∷ [])) rest → Parts number bytes (first ∷ items)
unfolding Parts
cut_lines number how bytes first [] item rest is =
    let line = first_line number how bytes first (item ∷ []) rest (omega arith) is in (
      line.word,
      line.next,
      line.bytes_are ∙ sym (append_assoc line.word (10 ∷ []) line.next),
      by_next line.next line.more,
      one_line number 10 Open line.word [] line.short line.one refl ∙ ap (λ (f : Fed). behind ((number, line.word) ∷ []) f) (no_part by_feeds (number + 1) Open) ∙ (λ i. record { items = line.first_is i ∷ []; ending = Open }),
    )
  where
    by_next : (l : List ℕ) → lines_from (number + 1) how l ≡ behind (item ∷ []) rest → 0 < length l
    by_next [] more = absurd (omega (arith, ap (λ (f : Fed). length f.items) (sym (no_part by_feeds (number + 1) how) ∙ more)))
    by_next (b ∷ l) more = omega arith
cut_lines number how bytes first (second ∷ items) item rest is =
    let line = first_line number how bytes first (second ∷ (items ++ item ∷ [])) rest (omega arith) is in
    let on = cut_lines (number + 1) how line.next second items item rest line.more in
    let joins : (line.word ++ 10 ∷ on.0) ++ 10 ∷ [] ≡ line.word ++ 10 ∷ (on.0 ++ 10 ∷ []) = append_assoc line.word (10 ∷ on.0) (10 ∷ []) in (
      line.word ++ 10 ∷ on.0,
      on.1,
      line.bytes_are ∙ ap (λ (l : List ℕ). line.word ++ 10 ∷ l) on.2 ∙ sym (append_assoc line.word (10 ∷ (on.0 ++ 10 ∷ [])) on.1) ∙ ap (λ (l : List ℕ). l ++ on.1) (sym joins),
      on.3,
      ap (λ (l : List ℕ). lines_from number Open l) joins ∙ one_line number 10 Open line.word (on.0 ++ 10 ∷ []) line.short line.one refl ∙ ap (λ (f : Fed). behind ((number, line.word) ∷ []) f) on.4 ∙ (λ i. record { items = line.first_is i ∷ second ∷ items; ending = Open }),
    )

-- the same place among the bytes that still have their carriage returns
raw_cut : (bytes x y : List ℕ) → kept bytes ≡ (x ++ 10 ∷ []) ++ y → 0 < length y → (r : List ℕ) × (s : List ℕ) × (bytes ≡ (r ++ 10 ∷ []) ++ s) × (kept (r ++ 10 ∷ []) ≡ x ++ 10 ∷ []) × (0 < length s)
raw_cut [] [] y is some = cc
raw_cut [] (b ∷ x) y is some = cc
raw_cut (b ∷ bytes) x y is some = by_test (b == 13) refl (λ front here. raw_cut bytes front y here some) where
  Deeper : Type 0
  Deeper = (front : List ℕ) → kept bytes ≡ (front ++ 10 ∷ []) ++ y → (r : List ℕ) × (s : List ℕ) × (bytes ≡ (r ++ 10 ∷ []) ++ s) × (kept (r ++ 10 ∷ []) ≡ front ++ 10 ∷ []) × (0 < length s)

  Cuts : List ℕ → Type 0
  Cuts x = (r : List ℕ) × (s : List ℕ) × (b ∷ bytes ≡ (r ++ 10 ∷ []) ++ s) × (kept (r ++ 10 ∷ []) ≡ x ++ 10 ∷ []) × (0 < length s)

  tail_is : {a c : ℕ} {xs ys : List ℕ} → a ∷ xs ≡ c ∷ ys → xs ≡ ys
  tail_is e = cc

  head_is : {a c : ℕ} {xs ys : List ℕ} → a ∷ xs ≡ c ∷ ys → a ≡ c
  head_is e = cc

  keeps : (b == 13) ≡ false → (l : List ℕ) → kept (b ∷ l) ≡ b ∷ kept l
  keeps e l = ap (λ (t : Bool). cond (not t) (b ∷ kept l) (kept l)) e

  drops : (b == 13) ≡ true → (l : List ℕ) → kept (b ∷ l) ≡ kept l
  drops e l = ap (λ (t : Bool). cond (not t) (b ∷ kept l) (kept l)) e

  by_front : (b == 13) ≡ false → Deeper → (front : List ℕ) → front ≡ x → Cuts x
  by_front e deeper [] f =
      let here : b ∷ kept bytes ≡ 10 ∷ y = sym (keeps e bytes) ∙ is ∙ ap (λ (l : List ℕ). (l ++ 10 ∷ []) ++ y) (sym f) in
      ([], bytes, ap (λ (n : ℕ). n ∷ bytes) (head_is here), ap (λ (l : List ℕ). l ++ 10 ∷ []) f, omega (arith, some, ap length (tail_is here), kept_len bytes))
  by_front e deeper (a ∷ front) f =
      let here : b ∷ kept bytes ≡ a ∷ ((front ++ 10 ∷ []) ++ y) = sym (keeps e bytes) ∙ is ∙ ap (λ (l : List ℕ). (l ++ 10 ∷ []) ++ y) (sym f) in
      let on = deeper front (tail_is here) in
      (b ∷ on.0, on.1, ap (λ (l : List ℕ). b ∷ l) on.2, keeps e (on.0 ++ 10 ∷ []) ∙ (λ i. head_is here i ∷ on.3 i) ∙ ap (λ (l : List ℕ). l ++ 10 ∷ []) f, on.4)

  by_test : (t : Bool) → (b == 13) ≡ t → Deeper → Cuts x
  by_test true e deeper =
      let on = deeper x (sym (drops e bytes) ∙ is) in
      (b ∷ on.0, on.1, ap (λ (l : List ℕ). b ∷ l) on.2, drops e (on.0 ++ 10 ∷ []) ∙ on.3, on.4)
  by_test false e deeper = by_front e deeper x refl

both : (a b : Bool) → (a && b) ≡ true → (a ≡ true) × (b ≡ true)
both true b e = (refl, e)
both false b e = absurd (false≢true e)

mark_back : (bytes : List ℕ) → starts_with nat_eq bytes mark ≡ true → bytes ≡ mark ++ without_mark bytes
mark_back [] is = absurd (false≢true is)
mark_back (x ∷ []) is = absurd (false≢true (both (239 == x) false is).1)
mark_back (x ∷ y ∷ []) is = absurd (false≢true (both (187 == y) false (both (239 == x) ((187 == y) && false) is).1).1)
mark_back (x ∷ y ∷ z ∷ rest) is =
    let one = both (239 == x) ((187 == y) && ((191 == z) && true)) is in
    let two = both (187 == y) ((191 == z) && true) one.1 in
    (λ i. sym (eqb-true 239 x one.0) i ∷ sym (eqb-true 187 y two.0) i ∷ sym (eqb-true 191 z (both (191 == z) true two.1).0) i ∷ rest)
    ∙ ap (λ (l : List ℕ). mark ++ l) (sym (cond-true (starts_with nat_eq (x ∷ y ∷ z ∷ rest) mark) rest (x ∷ y ∷ z ∷ rest) is))

-- and with the mark before the first line
mark_cut : (bytes x y : List ℕ) → without_mark bytes ≡ (x ++ 10 ∷ []) ++ y → (front : List ℕ) × (bytes ≡ (front ++ 10 ∷ []) ++ y) × (without_mark (front ++ 10 ∷ []) ≡ x ++ 10 ∷ [])
mark_cut bytes x y is = by_test (starts_with nat_eq bytes mark) refl where
  plain : bytes ≡ (x ++ 10 ∷ []) ++ y → MarkFront (x ++ 10 ∷ []) ⊎ ((more : List ℕ) → without_mark ((x ++ 10 ∷ []) ++ more) ≡ without_mark (x ++ 10 ∷ []) ++ more) → without_mark (x ++ 10 ∷ []) ≡ x ++ 10 ∷ []
  plain same (inl may) = (front_in 0 (x ++ 10 ∷ []) refl may).2
  plain same (inr settled) = append_cancel_right (without_mark (x ++ 10 ∷ [])) (x ++ 10 ∷ []) y (sym (settled y) ∙ ap (λ (l : List ℕ). without_mark l) (sym same) ∙ is)

  by_test : (t : Bool) → starts_with nat_eq bytes mark ≡ t → (front : List ℕ) × (bytes ≡ (front ++ 10 ∷ []) ++ y) × (without_mark (front ++ 10 ∷ []) ≡ x ++ 10 ∷ [])
  by_test true e = (mark ++ x, mark_back bytes e ∙ ap (λ (l : List ℕ). mark ++ l) is, refl)
  by_test false e =
      let same : bytes ≡ (x ++ 10 ∷ []) ++ y = sym (cond-false (starts_with nat_eq bytes mark) _ _ e) ∙ is in
      (x, same, plain same (front_or_settled (x ++ 10 ∷ [])))

-- behind so many lines there is a place where they alone are the lines, and where the last of them ends
pub lines_place : LinesCanBeCut
unfolding Parts
lines_place bytes told first items item rest few is =
    let how = bytes_ending (length bytes) told in
    let all : lines_from 1 how (without_mark (kept bytes)) ≡ behind (first ∷ (items ++ item ∷ [])) rest = ap (λ (l : List ℕ). lines_behind 0 how (kept l)) (sym (take_all (2 ^ 60) bytes few)) ∙ is in
    let parts = cut_lines 1 how (without_mark (kept bytes)) first items item rest all in
    let marked = mark_cut (kept bytes) parts.0 parts.1 parts.2 in
    let raw = raw_cut bytes marked.0 parts.1 marked.1 parts.3 in
    let front = raw.0 ++ 10 ∷ [] in
    let count = length front in
    let front_len : count ≡ length raw.0 + 1 = length-append raw.0 (10 ∷ []) in
    let total : length bytes ≡ count + length raw.1 = ap length raw.2 ∙ length-append front raw.1 in
    let taken : take count bytes ≡ front = ap (λ (l : List ℕ). take count l) raw.2 ∙ take_at front raw.1 count refl in
    let short : count < 2 ^ 60 = omega (arith, total, raw.4, few) in (
      count,
      omega (arith, total, raw.4),
      omega (arith, front_len),
      (let place : count - 1 ≡ length raw.0 = omega (arith, front_len) in ap (λ (n : ℕ). slice_index bytes n) place ∙ ap (λ (l : List ℕ). slice_index l (length raw.0)) (raw.2 ∙ append_assoc raw.0 (10 ∷ []) raw.1) ∙ get_or_at raw.0 10 raw.1 0 (length raw.0) refl),
      ap (λ (l : List ℕ). lines_of l Cut) taken ∙ (λ i. lines_behind 0 (ending_short count Cut short i) (kept (take_all (2 ^ 60) front (omega (arith, short)) i)))
          ∙ ap (λ (l : List ℕ). lines_behind 0 Open l) raw.3 ∙ ap (λ (l : List ℕ). lines_from 1 Open l) marked.2 ∙ parts.4,
    )
