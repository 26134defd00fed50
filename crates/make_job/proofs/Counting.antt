-- The notes that are counted of the marks that are taken.
use Rattle.std.proofs.Common.{◌≡◌, ◌≢◌, ℕ, ◌+◌, ◌%◌, ◌^◌, ◌<◌, ◌==◌, inl, inr, ◌⊎◌, Bool, true, false, List, [], ◌∷◌, ◌++◌, length, length-append, refl, sym, ◌∙◌, ap, subst, arith}
use Rattle.std.proofs.lemmas.Bool.Decides.{nat_tests}
use Rattle.std.proofs.lemmas.List.{append-nil}
use Rattle.la_base.specs.declared.wires.Mark.{Mark}
use Rattle.la_base.specs.declared.wires.Mark.TheVariants.{Note as NoteMark, Piece as PieceMark, Floor as FloorMark, End as EndMark}
use Rattle.la_base.specs.declared.wires.Note.{Note}
use Rattle.la_base.specs.declared.wires.Piece.{Piece}
use Rattle.tree_io.specs.Feeds.{AddsMark}
use Rattle.listing_out.specs.declared.summaries.Tally.{Tally}
use Rattle.annot_merge.specs.Marks.{notes_in}
use Rattle.make_job.specs.Making.{sum_of}
use Rattle.make_job.specs.Tallies.{Counted, with_note, word_tally}
use Rattle.make_job.specs.declared.tally_taker.TallyTaker.{TallyTaker}
use Rattle.annot_merge.proofs.MergeLemmas.{notes_append}

-- the sum of more notes
sum_more : (xs : List Note) (note : Note) → sum_of (xs ++ note ∷ []) ≡ sum_of xs + note.a
sum_more [] note = omega arith
sum_more (x ∷ xs) note = let more = sum_more xs note in omega (arith, more)

-- one more note
tally_more : (xs : List Note) (note : Note) → word_tally (xs ++ note ∷ []) ≡ with_note (word_tally xs) note
tally_more xs note =
    let len : length (xs ++ note ∷ []) ≡ length xs + 1 = length-append xs (note ∷ []) in
    let more = sum_more xs note in
    let count : length (xs ++ note ∷ []) % 2 ^ 64 ≡ (length xs % 2 ^ 64 + 1) % 2 ^ 64 = omega (arith, len) in
    let sum : sum_of (xs ++ note ∷ []) % 2 ^ 32 ≡ (sum_of xs % 2 ^ 32 + note.a) % 2 ^ 32 = omega (arith, more) in
    λ i. record { count = count i; sum = sum i }

module _ (before after : ℕ → List Mark) (instance : ℕ) (mark : Mark) (adds : AddsMark before after instance mark) where
  -- the notes of any other instance
  elsewhere : (i : ℕ) → i ≢ instance → (tally : Tally) → tally ≡ word_tally (notes_in (before i)) → tally ≡ word_tally (notes_in (after i))
  elsewhere i apart tally was = was ∙ ap (λ (l : List Mark). word_tally (notes_in l)) (sym (adds.others i apart))

  -- those of the instance, with those of the mark
  grown : notes_in (after instance) ≡ notes_in (before instance) ++ notes_in (mark ∷ [])
  grown = ap notes_in adds.here ∙ notes_append (before instance) (mark ∷ [])

  here : (note : Note) → mark ≡ NoteMark note → (i : ℕ) → i ≡ instance → (old new : Tally) → new ≡ with_note old note → old ≡ word_tally (notes_in (before i)) → new ≡ word_tally (notes_in (after i))
  here note is i same old new counts was =
      let notes = notes_in (before instance) in
      let more : word_tally (notes_in (after instance)) ≡ with_note (word_tally notes) note =
      ap word_tally (grown ∙ ap (λ (m : Mark). notes ++ notes_in (m ∷ [])) is) ∙ tally_more notes note in
      counts ∙ ap (λ (t : Tally). with_note t note) was
      ∙ subst (λ (k : ℕ). with_note (word_tally (notes_in (before k))) note ≡ word_tally (notes_in (after k))) (sym same) (sym more)

  -- a note was counted
  pub counts_note : (note : Note) → mark ≡ NoteMark note → instance < 2 → (old new : TallyTaker)
      → (instance ≡ 0 → (new.bus ≡ with_note old.bus note) × (new.line ≡ old.line))
      → (instance ≢ 0 → (new.line ≡ with_note old.line note) × (new.bus ≡ old.bus)) → Counted old before → Counted new after
  counts_note note is within old new bus line had = by (instance == 0) refl
    where
      by : (first : Bool) → (instance == 0) ≡ first → Counted new after
      by true is_first =
          let zeroth : instance ≡ 0 = grind (arith, nat_tests, is_first) in
          record {
            bus = here note is 0 (sym zeroth) old.bus new.bus (bus zeroth).0 had.bus;
            line = (bus zeroth).1 ∙ elsewhere 1 (λ same. absurd (omega (arith, same, zeroth))) old.line had.line;
          }
      by false is_second =
          let other : instance ≢ 0 = λ zeroth. absurd (differ zeroth is_second) in
          let second : instance ≡ 1 = omega (arith, other, within) in
          record {
            bus = (line other).1 ∙ elsewhere 0 (λ same. absurd (omega (arith, same, second))) old.bus had.bus;
            line = here note is 1 (sym second) old.line new.line (line other).0 had.line;
          }
        where
          differ : instance ≡ 0 → (instance == 0) ≡ false → ⊥
          differ zeroth unlike = let yes : (instance == 0) ≡ true = grind (arith, nat_tests, zeroth) in absurd cc

  -- a mark that is no note
  pub no_note : ((piece : Piece) × (mark ≡ PieceMark piece)) ⊎ ((start : ℕ) × (mark ≡ FloorMark start)) ⊎ (mark ≡ EndMark) → notes_in (mark ∷ []) ≡ []
  no_note (inl is) = ap (λ (m : Mark). notes_in (m ∷ [])) is.1
  no_note (inr (inl is)) = ap (λ (m : Mark). notes_in (m ∷ [])) is.1
  no_note (inr (inr is)) = ap (λ (m : Mark). notes_in (m ∷ [])) is

  pub counts_none : notes_in (mark ∷ []) ≡ [] → (taker : TallyTaker) → Counted taker before → Counted taker after
  counts_none none taker had = record {
    bus = had.bus ∙ ap word_tally (sym (same 0 (0 == instance) refl));
    line = had.line ∙ ap word_tally (sym (same 1 (1 == instance) refl));
  } where
    same : (i : ℕ) (own : Bool) → (i == instance) ≡ own → notes_in (after i) ≡ notes_in (before i)
    same i true is =
        let at : i ≡ instance = grind (arith, nat_tests, is) in
        subst (λ (k : ℕ). notes_in (after k) ≡ notes_in (before k)) (sym at)
        (grown ∙ ap (λ (l : List Note). notes_in (before instance) ++ l) none ∙ append-nil (notes_in (before instance)))
    same i false is = ap notes_in (adds.others i (λ at. absurd (differ at is)))
      where
        differ : i ≡ instance → (i == instance) ≡ false → ⊥
        differ at unlike = let yes : (i == instance) ≡ true = grind (arith, nat_tests, at) in absurd cc
