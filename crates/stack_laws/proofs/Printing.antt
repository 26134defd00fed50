-- What the driver gathers and prints keeps a state legal.
use Rattle.std.proofs.Common.{◌≡◌, ℕ, ◌<◌, ◌≤◌, Bool, true, false, ◌||◌, List, [], ◌∷◌, ◌++◌, length, slice_get, Option, Some, None, refl, sym, ◌∙◌, ap, subst, append_assoc, append-nil, if◌then◌else◌}
use Rattle.std.specs.List.{All}
use Rattle.std.proofs.lemmas.List.{append_cancel_left}
use Rattle.std.proofs.lemmas.List.Elements.{All-nil, All-cons, All-head, All-tail, All-push, All-weaker}
use Rattle.la_base.specs.declared.wires.Mark.{Mark}
use Rattle.la_base.specs.declared.wires.Note.{Note}
use Rattle.note_order.specs.Order.{is_before, entry_of}
use Rattle.note_order.specs.declared.entry.Entry.{Entry}
use Rattle.annot_merge.specs.Bounds.{Allows, bound_of}
use Rattle.annot_merge.specs.Marks.{notes_in}
use Rattle.decoder_core.specs.Inputs.{Item}
use Rattle.decoder_core.specs.Marks.{shown, FloorsHold, MarksFrom}
use Rattle.tree_io.specs.Feeds.{marks_of}
use Rattle.decoder_core.specs.Promises.{KeepsFront}
use Rattle.tree_io.proofs.Taking.{marks-append}
use Rattle.tree_runs.proofs.Lists.{shown-append}
use Rattle.tree_runs.specs.Listings.{notes_of}
use Rattle.tree_runs.specs.Machines.{Definitions}
use Rattle.tree_runs.specs.Passing.{IsForest, only}
use Rattle.stack_laws.specs.Links.{IsLink, EndsLast, some}
use Rattle.stack_laws.specs.Running.{State, Stage}
use Rattle.stack_laws.specs.Feeds.{ends_marks}
use Rattle.stack_laws.specs.Events.{Gather, Print, after, stop_if, took_mark, gathered_of, May}
use Rattle.stack_laws.specs.Heeding.{Heeds}
use Rattle.stack_laws.specs.Legal.{Fits, Legal, NoNoteBefore, MayFollow}
use Rattle.stack_laws.proofs.Wires.{notes-append, notes_shown, notes_of_marks}
use Rattle.stack_laws.proofs.Places.{at_place}
use Rattle.stack_laws.proofs.Links.{link_took, link_took_none}
use Rattle.stack_laws.proofs.Feeding.{due_same, stop_fits}
use Rattle.stack_laws.proofs.Floors.{bound_none, bound_from, from_zero, notes_start, allowed_first}
use Rattle.stack_laws.proofs.Coming.{came_over, ended_closed, made_of, notes_ended, notes_made}
use Rattle.stack_laws.proofs.Heeded.{all_heed}
use Rattle.stack_laws.proofs.Order.{listing_grows, sorted_by}

-- of notes that stand before no entry, a front and what is behind it
module _ (P : Note → Type 0) where
  front_all : (xs ys : List Note) → All P (xs ++ ys) → All P xs
  front_all [] ys all = All-nil P
  front_all (x ∷ xs) ys all = All-cons P x xs (All-head P x (xs ++ ys) all) (front_all xs ys (All-tail P x (xs ++ ys) all))

  rest_all : (xs ys : List Note) → All P (xs ++ ys) → All P ys
  rest_all [] ys all = all
  rest_all (x ∷ xs) ys all = rest_all xs ys (All-tail P x (xs ++ ys) all)

module _ (i : ℕ) where
  abbrev NoneBefore : List Note → Entry → Type 0
  NoneBefore notes entry = All (λ note. is_before (entry_of i note) entry ≡ false) notes

  left_none : (firsts : List Entry) (xs ys : List Note) → NoNoteBefore firsts i (xs ++ ys) → NoNoteBefore firsts i xs
  left_none firsts xs ys none = All-weaker (NoneBefore (xs ++ ys)) (NoneBefore xs) (λ entry all. front_all (λ note. is_before (entry_of i note) entry ≡ false) xs ys all) firsts none

  right_none : (firsts : List Entry) (xs ys : List Note) → NoNoteBefore firsts i (xs ++ ys) → NoNoteBefore firsts i ys
  right_none firsts xs ys none = All-weaker (NoneBefore (xs ++ ys)) (NoneBefore ys) (λ entry all. rest_all (λ note. is_before (entry_of i note) entry ≡ false) xs ys all) firsts none

  none_none : (firsts : List Entry) → NoNoteBefore firsts i []
  none_none [] = All-nil (NoneBefore [])
  none_none (x ∷ firsts) = All-cons (NoneBefore []) x firsts (All-nil (λ note. is_before (entry_of i note) x ≡ false)) (none_none firsts)

-- a stop keeps a state legal
stop_legal : (parents : List (Option ℕ)) (by : Definitions) (slots : ℕ) (state : State) → Legal parents by slots state → (stops : Bool) → Legal parents by slots (stop_if parents stops state)
stop_legal parents by slots state legal stops = record { fits = stop_fits parents by slots state legal.fits stops; prints = legal.prints; hears = λ is. ap (λ (b : Bool). b || stops) (legal.hears is); later = legal.later }

module _ (parents : List (Option ℕ)) (by : Definitions) (slots : ℕ) (state : State) (legal : Legal parents by slots state) where
  abbrev fits : Fits parents by slots state
  fits = legal.fits

  abbrev at : ℕ → Stage
  at j = state.stages j

  abbrev had : ℕ → List Note
  had j = notes_in (at j).marks.received

  module _ (forest : IsForest parents) (i : ℕ) (mark : Mark) (stops : Bool) (may : May parents by slots (Gather i mark stops) state) where
    abbrev Gathered : State
    Gathered = record state { stages = took_mark i mark state.stages }

    -- the notes that are gathered now
    abbrev more_of : ℕ → List Note
    more_of j = notes_in (only i (mark ∷ []) j)

    now_all : (j : ℕ) → notes_in (gathered_of Gathered j) ≡ had j ++ more_of j
    now_all j = notes-append (at j).marks.received (only i (mark ∷ []) j)

    gather_outputs : (j : ℕ) → IsLink ends_marks slots (Gathered.stages j).marks
    gather_outputs = at_place (λ j b. IsLink ends_marks slots (record (at j).marks { received = (at j).marks.received ++ (if b then mark ∷ [] else []) })) i
        (link_took ends_marks slots (at i).marks (fits.outputs i) mark may.1)
        (λ j. link_took_none ends_marks slots (at j).marks (fits.outputs j))

    -- they stand before none that was printed: they are some of those that weren't gathered
    gather_none : (j : ℕ) → j < length parents → NoNoteBefore state.printed j (more_of j)
    gather_none = at_place (λ j b. j < length parents → NoNoteBefore state.printed j (notes_in (if b then mark ∷ [] else []))) i
        (λ low.
        let link = fits.outputs i in
        let next = may.1 in
        let behind = next.0 ++ link.sends.0 in
        let made : (at i).marks.made ≡ (at i).marks.received ++ ((mark ∷ []) ++ behind) =
        link.sends.1 ∙ ap (λ (l : List Mark). l ++ link.sends.0) next.1 ∙ append_assoc (at i).marks.received (mark ∷ next.0) link.sends.0 in
        let notes : notes_of (by.whole i ((at i).consumed ++ [])) ≡ had i ++ (notes_in (mark ∷ []) ++ notes_in behind) =
        ap (λ (l : List Item). notes_of (by.whole i l)) (append-nil (at i).consumed) ∙ notes_made parents by slots state fits i ∙ ap notes_in made
        ∙ notes-append (at i).marks.received ((mark ∷ []) ++ behind) ∙ ap (λ (l : List Note). had i ++ l) (notes-append (mark ∷ []) behind) in
        left_none i state.printed (notes_in (mark ∷ [])) (notes_in behind) (legal.later i low [] (notes_in (mark ∷ []) ++ notes_in behind)
        (subst (Heeds (at i).input.received) (sym (append-nil (at i).consumed)) (all_heed parents by slots state fits forest i low), λ closed ended. refl) notes))
        (λ j low. none_none j state.printed)

    gather_kept : Legal parents by slots Gathered
    gather_kept = record {
      fits = record {
        inputs = fits.inputs;
        outputs = gather_outputs;
        takes = fits.takes;
        hands = λ j. fits.hands j ∙ due_same by state Gathered (slice_get parents j) refl refl (λ p. refl) (λ p. refl);
        places = fits.places;
        marks = fits.marks;
        floors = fits.floors;
        batched = fits.batched;
      };
      hears = legal.hears;
      prints = (
        _,
        sorted_by (gathered_of Gathered) (length parents)
            ∙ listing_grows had more_of (λ j. notes_in (gathered_of Gathered j)) (length parents) state.printed legal.prints.0 (λ j low. now_all j)
            (sym (sorted_by (gathered_of state) (length parents)) ∙ legal.prints.1) gather_none,
      );
      later = λ j low more new on is.
          right_none j state.printed (more_of j) new (legal.later j low more (more_of j ++ new) on (is ∙ ap (λ (l : List Note). l ++ new) (now_all j) ∙ append_assoc (had j) (more_of j) new));
    }

    pub gather_legal : Legal parents by slots (after parents (Gather i mark stops) state)
    gather_legal = stop_legal parents by slots Gathered gather_kept stops

  module _ (forest : IsForest parents) (prefix : (j : ℕ) → KeepsFront (by.whole j)) (entry : Entry) (stops : Bool) (may : May parents by slots (Print entry stops) state) where
    abbrev Printed : State
    Printed = record state { printed = state.printed ++ entry ∷ [] }

    module _ (j : ℕ) (more : List Item) (new : List Note) (is : notes_of (by.whole j ((at j).consumed ++ more)) ≡ had j ++ new) where
      -- a stage whose End was gathered gives no more notes
      print_ended : MayFollow state j more → some ends_marks (at j).marks.received ≡ true → new ≡ []
      print_ended on has =
          let closed = ended_closed parents by slots state fits j has in
          let over = came_over parents by slots state fits forest j ((fits.takes j).all closed).0 in
          let unheard = not_heard state.heard refl in
          let none : more ≡ [] = on.1 closed (way state.ended state.heard over unheard) in
          append_cancel_left (had j) new []
          (sym is ∙ ap (λ (l : List Item). notes_of (by.whole j ((at j).consumed ++ l))) none ∙ ap (λ (l : List Item). notes_of (by.whole j l)) (append-nil (at j).consumed)
          ∙ notes_ended parents by slots state fits j has ∙ sym (append-nil (had j)))
        where
          not_heard : (b : Bool) → state.heard ≡ b → state.heard ≡ false
          not_heard false is = is
          not_heard true is = let bad : true ≡ false = sym (legal.hears is) ∙ may.0.1 in absurd cc

          way : (e s : Bool) → (e || s) ≡ true → s ≡ false → e ≡ true
          way true s over none = refl
          way false s over none = sym none ∙ over

      -- all that a stage gives behind the marks that were gathered of it starts at their bound or later
      print_floor : MayFollow state j more → (bound : ℕ) → bound_of (at j).marks.received ≡ Some bound → All (λ note. bound ≤ note.start) new
      print_floor on bound at_bound =
          let made = made_of parents by slots state fits j in
          let received = (at j).marks.received in
          let grows = prefix j (at j).consumed more in
          let rest = shown made.0 ++ marks_of grows.0 in
          let all : marks_of (by.whole j ((at j).consumed ++ more)) ≡ shown received ++ rest =
          ap marks_of grows.1 ∙ marks-append (by.whole j (at j).consumed) grows.0 ∙ ap (λ (l : List Mark). l ++ marks_of grows.0) (sym (fits.marks j).shows ∙ ap shown made.1 ∙ shown-append received made.0)
          ∙ append_assoc (shown received) (shown made.0) (marks_of grows.0) in
          let holds : FloorsHold (received ++ made.0) (shown received ++ rest) =
          subst (FloorsHold (received ++ made.0)) all (subst (λ (l : List Mark). FloorsHold l (marks_of (by.whole j ((at j).consumed ++ more)))) made.1 (fits.floors j more on.0)) in
          let from : MarksFrom bound rest = bound_from 0 received made.0 rest bound at_bound (subst (EndsLast ends_marks) made.1 (fits.marks j).last) holds (from_zero (shown received ++ rest)) in
          let same : notes_in rest ≡ new =
          append_cancel_left (notes_in received) (notes_in rest) new
          (ap (λ (l : List Note). l ++ notes_in rest) (sym (notes_shown received)) ∙ sym (notes-append (shown received) rest) ∙ ap notes_in (sym all) ∙ notes_of_marks (by.whole j ((at j).consumed ++ more)) ∙ is) in
          subst (All (λ note. bound ≤ note.start)) same (notes_start bound rest from)

      print_none : MayFollow state j more → Allows (bound_of (at j).marks.received) j entry → NoneBefore j new entry
      print_none on allows = way (bound_of (at j).marks.received) refl allows
        where
          way : (bound : Option ℕ) → bound_of (at j).marks.received ≡ bound → Allows bound j entry → NoneBefore j new entry
          way None ended allows = subst (λ (l : List Note). NoneBefore j l entry) (sym (print_ended on (bound_none 0 (at j).marks.received ended))) (All-nil (λ note. is_before (entry_of j note) entry ≡ false))
          way (Some bound) at_bound allows =
              All-weaker (λ note. bound ≤ note.start) (λ note. is_before (entry_of j note) entry ≡ false) (λ note from. allowed_first j bound entry allows note from) new (print_floor on bound at_bound)

    print_kept : Legal parents by slots Printed
    print_kept = record {
      fits = record {
        inputs = fits.inputs;
        outputs = fits.outputs;
        takes = fits.takes;
        hands = λ j. fits.hands j ∙ due_same by state Printed (slice_get parents j) refl refl (λ p. refl) (λ p. refl);
        places = fits.places;
        marks = fits.marks;
        floors = fits.floors;
        batched = fits.batched;
      };
      hears = legal.hears;
      prints = let next = may.0.0 in (next.0, next.1 ∙ sym (append_assoc state.printed (entry ∷ []) next.0));
      later = λ j low more new on is. All-push (NoneBefore j new) state.printed entry (legal.later j low more new on is) (print_none j more new is on (may.0.2 j low));
    }

    pub print_legal : Legal parents by slots (after parents (Print entry stops) state)
    print_legal = stop_legal parents by slots Printed print_kept stops
