-- The parts of a front, and of a longer input.
use Rattle.std.proofs.Common.{◌≡◌, ℕ, ◌+◌, ◌-◌, ◌^◌, ◌≤◌, ◌<◌, ◌==◌, ◌&&◌, ◌⊎◌, not, inl, inr, List, [], ◌∷◌, ◌++◌, take, length, refl, sym, ◌∙◌, ap, arith, length-append, append_assoc, subst, Bool, true, false, cond}
use Rattle.std.proofs.lemmas.List.{take_all, take-append-le}
use Rattle.std.proofs.lemmas.Bool.{cond-true, cond-false, le-leb}
use Rattle.std.proofs.Math.Seq.{take-append-add}
use Rattle.std.specs.List.{slice_split, onto_first}
use Rattle.text_parts.specs.Places.{Placed}
use Rattle.la_io.specs.declared.fault.CaptureFault.{CaptureFault}
use Rattle.la_io.specs.declared.fault.CaptureFault.TheVariants.{TooLong, Bytes}
use Rattle.la_io.specs.Capture.{Told, Cut, Ending, Faulty, Open}
use Rattle.byte_feed.specs.Laws.{Extends, TokensExtend}
use Rattle.byte_feed.specs.Parts.{Cutting, Fed, behind, bytes_ending, ends, is_long, last_part, marked_from, parts_from, parts_in, whole_part}
use Rattle.byte_feed.specs.Tokens.{by_blanks, tokens_from}
use Rattle.byte_feed.proofs.PartLaws.{before_some, ending_full, ending_short, is_short, long_first, split_some}

-- parts whose last one goes on with the first of others
unfoldable join_parts : List (List ℕ) → List (List ℕ) → List (List ℕ)
join_parts [] qs = qs
join_parts (p ∷ []) [] = p ∷ []
join_parts (p ∷ []) (q ∷ qs) = (p ++ q) ∷ qs
join_parts (p ∷ next ∷ ps) qs = p ∷ join_parts (next ∷ ps) qs

onto_join : (x : ℕ) (p q : List ℕ) (ps qs : List (List ℕ)) → onto_first x (join_parts (p ∷ ps) (q ∷ qs)) ≡ join_parts (onto_first x (p ∷ ps)) (q ∷ qs)
unfolding join_parts
onto_join x p q [] qs = refl
onto_join x p q (n ∷ ps) qs = refl

some_join : (n q : List ℕ) (ps qs : List (List ℕ)) → (a : List ℕ) × (as' : List (List ℕ)) × (join_parts (n ∷ ps) (q ∷ qs) ≡ a ∷ as')
unfolding join_parts
some_join n q [] qs = (n ++ q, qs, refl)
some_join n q (m ∷ ps) qs = (n, join_parts (m ∷ ps) (q ∷ qs), refl)

-- a part before others
ext_behind : (items : List Placed) (front whole : Fed) → Extends front whole → Extends (behind items front) (behind items whole)
ext_behind items front whole (inl cut) = inl (cut.0, cut.1, ap (λ (l : List Placed). items ++ l) cut.2 ∙ sym (append_assoc items front.items cut.1))
ext_behind items front whole (inr same) = inr (same.0, same.1, ap (λ (f : Fed). behind items f) same.2)

ext_whole : (empties : Bool) (part : Placed) (front whole : Fed) → Extends front whole → Extends (whole_part empties part front) (whole_part empties part whole)
ext_whole empties part front whole ext = by_test (is_long part.1) (not empties && length part.1 == 0) where
  by_test : (long none : Bool) → Extends (cond long (ends (Faulty (TooLong part.0))) (cond none front (behind (part ∷ []) front))) (cond long (ends (Faulty (TooLong part.0))) (cond none whole (behind (part ∷ []) whole)))
  by_test true none = inr (TooLong part.0, refl, refl)
  by_test false true = ext
  by_test false false = ext_behind (part ∷ []) front whole ext

module _ (cut : Cutting) where
  abbrev Split : List ℕ → List (List ℕ)
  Split bytes = slice_split cut.ends_part bytes

  abbrev In : Ending → ℕ → List (List ℕ) → Fed
  In how mark parts = parts_in cut.empties how (marked_from cut.next mark parts)

  -- the parts of bytes and more
  split_append : (front more q : List ℕ) (qs : List (List ℕ)) → Split more ≡ q ∷ qs → Split (front ++ more) ≡ join_parts (Split front) (q ∷ qs)
  unfolding join_parts
  split_append [] more q qs is = is
  split_append (x ∷ front) more q qs is =
      let first = split_some cut front in
      ap (λ (l : List (List ℕ)). cond (cut.ends_part x) ([] ∷ l) (onto_first x l)) (split_append front more q qs is ∙ ap (λ (l : List (List ℕ)). join_parts l (q ∷ qs)) first.2)
      ∙ by_test (cut.ends_part x) first.0 first.1
      ∙ ap (λ (l : List (List ℕ)). join_parts (cond (cut.ends_part x) ([] ∷ l) (onto_first x l)) (q ∷ qs)) (sym first.2)
    where
      by_test : (t : Bool) (p : List ℕ) (ps : List (List ℕ)) → cond t ([] ∷ join_parts (p ∷ ps) (q ∷ qs)) (onto_first x (join_parts (p ∷ ps) (q ∷ qs))) ≡ join_parts (cond t ([] ∷ p ∷ ps) (onto_first x (p ∷ ps))) (q ∷ qs)
      by_test true p ps = refl
      by_test false p ps = onto_join x p q ps qs

  -- a last part that goes on
  ext_last : (how : Ending) (mark : ℕ) (p q : List ℕ) (qs : List (List ℕ)) → (65536 ≤ length p) ⊎ (length p < 65536) → Extends (last_part Open (mark, p)) (In how mark ((p ++ q) ∷ qs))
  ext_last how mark p q qs (inl long) =
      let is = cond-true (is_long p) (ends (Faulty (TooLong mark))) (ends Open) (le-leb 65536 (length p) long) in
      inr (TooLong mark, ap (λ (f : Fed). f.ending) is, long_first cut mark how (p ++ q) qs (omega (arith, long, length-append p q)) ∙ sym is)
  ext_last how mark p q qs (inr short) =
      let whole = In how mark ((p ++ q) ∷ qs) in
      let is = cond-false (is_long p) (ends (Faulty (TooLong mark))) (ends Open) (is_short p short) in
      inl (ap (λ (f : Fed). f.ending) is, whole.items, ap (λ (f : Fed). f.items ++ whole.items) (sym is))

  ext_parts : (how : Ending) (mark : ℕ) (p q : List ℕ) (ps qs : List (List ℕ)) → Extends (In Open mark (p ∷ ps)) (In how mark (join_parts (p ∷ ps) (q ∷ qs)))
  unfolding join_parts
  ext_parts how mark p q [] qs = ext_last how mark p q qs (search arith)
  ext_parts how mark p q (n ∷ ps) qs =
      let some = some_join n q ps qs in
      subst (λ (f : Fed). Extends (whole_part cut.empties (mark, p) (In Open (cut.next mark p) (n ∷ ps))) f)
      (sym (before_some cut how (mark, p) (cut.next mark p) (join_parts (n ∷ ps) (q ∷ qs)) some.0 some.1 some.2))
      (ext_whole cut.empties (mark, p) _ _ (ext_parts how (cut.next mark p) n q ps qs))

  pub ext_from : (mark : ℕ) (how : Ending) (front more : List ℕ) → Extends (parts_from cut mark Open front) (parts_from cut mark how (front ++ more))
  unfolding parts_from
  ext_from mark how front more =
      let first = split_some cut front in
      let others = split_some cut more in
      let Q : List (List ℕ) → List (List ℕ) → Type 0 = λ (l m : List (List ℕ)). Extends (In Open mark l) (In how mark m) in
      subst (λ (m : List (List ℕ)). Q (Split front) m) (sym (split_append front more others.0 others.1 others.2))
      (subst (λ (l : List (List ℕ)). Q l (join_parts l (others.0 ∷ others.1))) (sym first.2) (ext_parts how mark first.0 others.0 first.1 others.1))

  -- bytes with a fault end with one
  still_faulty : (fault : CaptureFault) (mark : ℕ) (parts : List (List ℕ)) → (other : CaptureFault) × ((In (Faulty fault) mark parts).ending ≡ Faulty other)
  still_faulty fault mark [] = (fault, refl)
  still_faulty fault mark (p ∷ []) = by_test (is_long p) where
    by_test : (long : Bool) → (other : CaptureFault) × ((cond long (ends (Faulty (TooLong mark))) (ends (Faulty fault))).ending ≡ Faulty other)
    by_test true = (TooLong mark, refl)
    by_test false = (fault, refl)
  still_faulty fault mark (p ∷ n ∷ ps) = by_test (is_long p) (not cut.empties && length p == 0) (still_faulty fault (cut.next mark p) (n ∷ ps)) where
    rest : Fed
    rest = In (Faulty fault) (cut.next mark p) (n ∷ ps)

    by_test : (long none : Bool) → (other : CaptureFault) × (rest.ending ≡ Faulty other) → (other : CaptureFault) × ((cond long (ends (Faulty (TooLong mark))) (cond none rest (behind ((mark, p) ∷ []) rest))).ending ≡ Faulty other)
    by_test true none later = (TooLong mark, refl)
    by_test false true later = later
    by_test false false later = later

  pub still_faulty_from : (mark : ℕ) (fault : CaptureFault) (bytes : List ℕ) → (other : CaptureFault) × ((parts_from cut mark (Faulty fault) bytes).ending ≡ Faulty other)
  unfolding parts_from
  still_faulty_from mark fault bytes = still_faulty fault mark (Split bytes)

-- what is said of bytes by their ending, where a reader stops behind 2^60 of them
module _ (whole : Ending → List ℕ → Fed) (longer : (how : Ending) (front more : List ℕ) → Extends (whole Open front) (whole how (front ++ more)))
    (faulty : (fault : CaptureFault) (bytes : List ℕ) → (other : CaptureFault) × ((whole (Faulty fault) bytes).ending ≡ Faulty other)) where
  abbrev pub WholeOf : List ℕ → Told → Fed
  WholeOf bytes told = whole (bytes_ending (length bytes) told) (take (2 ^ 60) bytes)

  pub whole_extends : (front more : List ℕ) (told : Told) → Extends (WholeOf front Cut) (WholeOf (front ++ more) told)
  whole_extends front more told = by_count (search arith) where
    by_count : (2 ^ 60 ≤ length front) ⊎ (length front < 2 ^ 60) → Extends (WholeOf front Cut) (WholeOf (front ++ more) told)
    by_count (inl full) =
        let f = take (2 ^ 60) front in
        let is : WholeOf front Cut ≡ whole (Faulty Bytes) f = ap (λ (h : Ending). whole h f) (ending_full (length front) Cut full) in
        let all : WholeOf (front ++ more) told ≡ whole (Faulty Bytes) f =
        ap (λ (h : Ending). whole h (take (2 ^ 60) (front ++ more))) (ending_full (length (front ++ more)) told (omega (arith, full, length-append front more)))
        ∙ ap (λ (l : List ℕ). whole (Faulty Bytes) l) (take-append-le (2 ^ 60) front more full) in
        let other = faulty Bytes f in
        inr (other.0, ap (λ (x : Fed). x.ending) is ∙ other.1, all ∙ sym is)
    by_count (inr short) =
        let few : length front ≤ 2 ^ 60 = omega (arith, short) in
        let over : 2 ^ 60 ≡ length front + (2 ^ 60 - length front) = omega (arith, short) in
        let is : WholeOf front Cut ≡ whole Open front =
        ap (λ (h : Ending). whole h (take (2 ^ 60) front)) (ending_short (length front) Cut short) ∙ ap (λ (l : List ℕ). whole Open l) (take_all (2 ^ 60) front few) in
        let rest = take (2 ^ 60 - length front) more in
        let all : WholeOf (front ++ more) told ≡ whole (bytes_ending (length (front ++ more)) told) (front ++ rest) =
        ap (λ (l : List ℕ). whole (bytes_ending (length (front ++ more)) told) l) (ap (λ (n : ℕ). take n (front ++ more)) over ∙ take-append-add front more (2 ^ 60 - length front)) in
        subst (λ (x : Fed). Extends x (WholeOf (front ++ more) told)) (sym is) (subst (λ (x : Fed). Extends (whole Open front) x) (sym all) (longer (bytes_ending (length (front ++ more)) told) front rest))

pub tokens_extend : TokensExtend
tokens_extend = whole_extends (tokens_from 0) (ext_from by_blanks 0) (still_faulty_from by_blanks 0)
