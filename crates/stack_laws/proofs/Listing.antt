-- What was printed in a legal state is of the listing of what was fed.
use Rattle.std.proofs.Common.{◌≡◌, ℕ, zero, suc, ◌+◌, ◌<◌, true, List, [], ◌∷◌, ◌++◌, map, length, drop, Option, refl, sym, ◌∙◌, ap, subst, arith, append_assoc, append-nil}
use Rattle.std.specs.List.{range_with_len}
use Rattle.std.proofs.lemmas.List.{append_cancel_left}
use Rattle.la_base.specs.Runs.{samples_of}
use Rattle.la_base.specs.declared.wires.Note.{Note}
use Rattle.note_order.specs.Order.{listed}
use Rattle.annot_merge.specs.Marks.{notes_in}
use Rattle.decoder_core.specs.Inputs.{Item}
use Rattle.tree_runs.specs.Listings.{notes_of}
use Rattle.tree_runs.specs.Machines.{Definitions}
use Rattle.stack_laws.specs.Links.{IsFront}
use Rattle.stack_laws.specs.Running.{State, Stage}
use Rattle.stack_laws.specs.Events.{gathered_of}
use Rattle.stack_laws.specs.Heeding.{Heeds}
use Rattle.stack_laws.specs.Legal.{MayFollow, Legal}
use Rattle.stack_laws.specs.Listings.{AreInputs, listing}
use Rattle.stack_laws.specs.Laws.{IsLawful, IsDone}
use Rattle.stack_laws.proofs.Lists.{behind_front}
use Rattle.stack_laws.proofs.Wires.{notes-append, notes_of-append}
use Rattle.stack_laws.proofs.Coming.{ended_closed, made_of, notes_ended, notes_made}
use Rattle.stack_laws.proofs.Order.{listing_grows, sorted_by}
use Rattle.stack_laws.proofs.Reading.{goes}

same_map : (f g : ℕ → List Note) (a n : ℕ) → ((j : ℕ) → j < a + n → f j ≡ g j) → map f (range_with_len a n) ≡ map g (range_with_len a n)
same_map f g a zero same = refl
same_map f g a (suc n) same = let rest = same_map f g (a + 1) n (λ j low. same j (omega (arith, low))) in λ i. same a (omega arith) i ∷ rest i

module _ (parents : List (Option ℕ)) (by : Definitions) (slots : ℕ) (lawful : IsLawful parents by) (state : State) (legal : Legal parents by slots state) where
  abbrev at : ℕ → Stage
  at j = state.stages j

  abbrev had : ℕ → List Note
  had j = notes_in (gathered_of state j)

  -- whatever the inputs go on with
  module _ (rest : ℕ → List Item) where
    abbrev gave : ℕ → List Note
    gave j = notes_of (by.whole j ((at j).consumed ++ rest j))

    abbrev left : ℕ → List Note
    left j = drop (length (had j)) (gave j)

    -- the notes that were gathered are the first of each instance
    had_front : (j : ℕ) → gave j ≡ had j ++ left j
    had_front j =
        let grows = lawful.prefix j (at j).consumed (rest j) in
        let made = made_of parents by slots state legal.fits j in
        behind_front (had j) (gave j) (
          notes_in made.0 ++ notes_of grows.0,
          ap notes_of grows.1 ∙ notes_of-append (by.whole j (at j).consumed) grows.0
              ∙ ap (λ (l : List Note). l ++ notes_of grows.0) (notes_made parents by slots state legal.fits j ∙ ap notes_in made.1 ∙ notes-append (at j).marks.received made.0)
              ∙ append_assoc (had j) (notes_in made.0) (notes_of grows.0),
        )

    pub front_whatever : ((i : ℕ) → i < length parents → MayFollow state i (rest i)) → IsFront state.printed (listing parents by.whole (λ i. (at i).consumed ++ rest i))
    front_whatever on = (
      _,
      listing_grows had left gave (length parents) state.printed legal.prints.0 (λ j within. had_front j) (sym (sorted_by (gathered_of state) (length parents)) ∙ legal.prints.1)
          (λ j within. legal.later j within (rest j) (left j) (on j within) (had_front j)),
    )

  module _ (more : List ℕ) (input : ℕ → List Item) (reads : AreInputs parents by.whole (samples_of state.fed ++ more) input) where
    abbrev all : ℕ → List Note
    all j = notes_of (by.whole j (input j))

    abbrev to_come : ℕ → List Item
    to_come j = drop (length (at j).consumed) (input j)

    goes_on : (j : ℕ) → j < length parents → input j ≡ (at j).consumed ++ to_come j
    goes_on j within = let g = goes parents by slots lawful state legal.fits more input reads j within in behind_front (at j).consumed (input j) (g.0, g.1)

    -- where each input goes on as it may, what was printed is a front of the listing
    pub printed_front : (state.ended ≡ true → more ≡ []) → IsFront state.printed (listing parents by.whole input)
    printed_front done =
        let front = front_whatever to_come (λ j within.
        let g = goes parents by slots lawful state legal.fits more input reads j within in (
          subst (Heeds (at j).input.received) (goes_on j within) g.3,
          λ closed ended. append_cancel_left (at j).consumed (to_come j) [] (sym (goes_on j within) ∙ g.1 ∙ ap (λ (l : List Item). (at j).consumed ++ l) (g.2 (done ended) closed)),
        )) in
        (front.0, ap listed (same_map all (gave to_come) 0 (length parents) (λ j low. ap (λ (l : List Item). notes_of (by.whole j l)) (goes_on j (omega (arith, low))))) ∙ front.1)

    -- where each End was gathered, the notes that were gathered are all
    printed_all : more ≡ [] → IsDone parents state → state.printed ≡ listing parents by.whole input
    printed_all none done = done.none_held ∙ sorted_by (gathered_of state) (length parents) ∙ ap listed (same_map had all 0 (length parents) (λ j within. whole_there j (omega (arith, within))))
      where
        whole_there : (j : ℕ) → j < length parents → had j ≡ all j
        whole_there j within =
            let g = goes parents by slots lawful state legal.fits more input reads j within in
            let has = done.ends j within in
            let no_rest = g.2 none (ended_closed parents by slots state legal.fits j has) in
            sym (ap (λ (l : List Item). notes_of (by.whole j l)) (g.1 ∙ ap (λ (l : List Item). (at j).consumed ++ l) no_rest ∙ append-nil (at j).consumed) ∙ notes_ended parents by slots state legal.fits j has)

  -- where no samples come behind those that were fed
  module _ (input : ℕ → List Item) (reads : AreInputs parents by.whole (samples_of state.fed) input) where
    reads_no_more : AreInputs parents by.whole (samples_of state.fed ++ []) input
    reads_no_more = subst (λ (l : List ℕ). AreInputs parents by.whole l input) (sym (append-nil (samples_of state.fed))) reads

    pub ended_front : IsFront state.printed (listing parents by.whole input)
    ended_front = printed_front [] input reads_no_more (λ _. refl)

    pub ended_all : IsDone parents state → state.printed ≡ listing parents by.whole input
    ended_all done = printed_all [] input reads_no_more refl done
