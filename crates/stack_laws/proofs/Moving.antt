-- What a stage takes and consumes leaves the lists of a tree fitting together.
use Rattle.std.proofs.Common.{◌≡◌, inr, ℕ, Bool, true, false, ◌||◌, List, [], ◌∷◌, ◌++◌, slice_get, Option, Some, None, refl, sym, ◌∙◌, ap, subst, append-nil, if◌then◌else◌}
use Rattle.std.specs.Prelude.{nat_eq}
use Rattle.la_base.specs.declared.wires.Feed.{Feed}
use Rattle.la_base.specs.declared.wires.Feed.TheVariants.{End}
use Rattle.la_base.specs.declared.wires.Mark.{Mark}
use Rattle.la_base.specs.declared.wires.Mark.TheVariants.{End as EndMark}
use Rattle.la_base.specs.declared.wires.Out.{Out}
use Rattle.decoder_core.specs.Inputs.{Item}
use Rattle.tree_io.specs.Feeds.{marks_of}
use Rattle.decoder_core.specs.Promises.{KeepsFront}
use Rattle.decoder_core.specs.Trees.{packets_of}
use Rattle.tree_runs.specs.Machines.{Definitions}
use Rattle.tree_runs.specs.Passing.{only}
use Rattle.stack_laws.specs.Links.{EndsLast, IsLink, some}
use Rattle.stack_laws.specs.Running.{State, Stage, stands_on}
use Rattle.stack_laws.specs.Feeds.{ends_feed, ends_marks, feed_end, feeds_of, floor_feed, floor_mark, is_floor}
use Rattle.stack_laws.specs.Heeding.{TellsPlaces, without_places}
use Rattle.stack_laws.specs.Events.{Take, Close, Step, after, Asks, May}
use Rattle.stack_laws.specs.Legal.{Fits, due}
use Rattle.stack_laws.specs.Keeping.{Takes, Marks, Floors, Batched}
use Rattle.stack_laws.proofs.Coming.{parent_closed}
use Rattle.stack_laws.proofs.Heeding.{heeds_front, made_items, no_end_of_step, places_close, places_step}
use Rattle.stack_laws.proofs.Lists.{ends_last-append}
use Rattle.stack_laws.proofs.Places.{at_place, or_all, or_none, stands_is}
use Rattle.stack_laws.proofs.Links.{link_made, link_took, link_took_none}
use Rattle.stack_laws.proofs.Feeding.{due_same, handed}
use Rattle.stack_laws.proofs.Floors.{floors_end}
use Rattle.stack_laws.proofs.Batching.{batched_close, batched_step}
use Rattle.stack_laws.proofs.Staging.{take_takes, close_made, close_marks, step_made, step_takes, step_marks, step_floors}

module _ (parents : List (Option ℕ)) (by : Definitions) (slots : ℕ) (state : State) (fits : Fits parents by slots state) where
  abbrev at : ℕ → Stage
  at j = state.stages j

  pub take_fits : (i : ℕ) (feed : Feed) → May parents by slots (Take i feed) state → Fits parents by slots (after parents (Take i feed) state)
  take_fits i feed may = record {
    inputs = at_place (λ j b. IsLink ends_feed slots (record (at j).input { received = (at j).input.received ++ (if b then feed ∷ [] else []) })) i
        (link_took ends_feed slots (at i).input (fits.inputs i) feed may.1)
        (λ j. link_took_none ends_feed slots (at j).input (fits.inputs j));
    outputs = fits.outputs;
    takes = at_place (λ j b. Takes ((at j).input.received ++ (if b then feed ∷ [] else [])) (at j).consumed (at j).closed) i
        (take_takes (at i).input.received (at i).consumed (at i).closed feed may.0.0 (fits.takes i))
        (λ j. subst (λ (l : List Feed). Takes l (at j).consumed (at j).closed) (sym (append-nil (at j).input.received)) (fits.takes j));
    hands = λ j. fits.hands j ∙ due_same by state (after parents (Take i feed) state) (slice_get parents j) refl refl (λ p. refl) (λ p. refl);
    places = λ c p. at_place (λ p b. (c : ℕ) → slice_get parents c ≡ Some (Some p) → TellsPlaces (by.whole p) ((at p).input.received ++ (if b then feed ∷ [] else [])) (at p).consumed (at c).input.made) i
        (λ c on more heeds. fits.places c i on more (heeds_front (at i).input.received (feed ∷ []) ((at i).consumed ++ more) heeds))
        (λ p c on. subst (λ (l : List Feed). TellsPlaces (by.whole p) l (at p).consumed (at c).input.made) (sym (append-nil (at p).input.received)) (fits.places c p on)) p c;
    marks = fits.marks;
    floors = at_place (λ j b. Floors (by.whole j) ((at j).input.received ++ (if b then feed ∷ [] else [])) (at j).consumed (at j).marks.made) i
        (λ more heeds. fits.floors i more (heeds_front (at i).input.received (feed ∷ []) ((at i).consumed ++ more) heeds))
        (λ j. subst (λ (l : List Feed). Floors (by.whole j) l (at j).consumed (at j).marks.made) (sym (append-nil (at j).input.received)) (fits.floors j));
    batched = fits.batched;
  }

  -- no End was made yet for those that stand on a stage which hasn't closed
  none_below : (i : ℕ) → (at i).closed ≡ false → (j : ℕ) → stands_on (slice_get parents j) (Some i) ≡ true → some ends_feed (at j).input.made ≡ false
  none_below i going j on = parent_closed parents by slots state fits j i (stands_is (slice_get parents j) i on) ∙ going

  module _ (i : ℕ) (asks : Asks parents by (Close i) state) where
    abbrev Closed : State
    Closed = after parents (Close i) state

    ended : (p : ℕ) → (made : List Feed) → without_places made ≡ due by.whole state (Some (Some p))
        → without_places (made ++ (if nat_eq p i then End ∷ [] else [])) ≡ feeds_of (by.whole p (at p).consumed) ++ feed_end ((at p).closed || nat_eq p i)
    ended = at_place (λ p b. (made : List Feed) → without_places made ≡ due by.whole state (Some (Some p)) → without_places (made ++ (if b then End ∷ [] else [])) ≡ feeds_of (by.whole p (at p).consumed) ++ feed_end ((at p).closed || b)) i
        (λ made is. close_made (by.whole i (at i).consumed) (at i).closed ((at i).closed || true) asks.3 (or_all (at i).closed) made is)
        (λ p made is. ap without_places (append-nil made) ∙ is ∙ (λ k. feeds_of (by.whole p (at p).consumed) ++ feed_end (sym (or_none (at p).closed) k)))

    ended_hands : (made : List Feed) (place : Option (Option ℕ)) → without_places made ≡ due by.whole state place → without_places (made ++ (if stands_on place (Some i) then End ∷ [] else [])) ≡ due by.whole Closed place
    ended_hands made None is = ap without_places (append-nil made) ∙ is
    ended_hands made (Some None) is = ap without_places (append-nil made) ∙ is
    ended_hands made (Some (Some p)) is = ended p made is

    -- the places that were told hold still
    ended_places : (c p : ℕ) → slice_get parents c ≡ Some (Some p) → (b : Bool) → TellsPlaces (by.whole p) (at p).input.received (at p).consumed ((at c).input.made ++ (if b then End ∷ [] else []))
    ended_places c p on true = λ more heeds. places_close (at c).input.made (packets_of (by.whole p ((at p).consumed ++ more))) (fits.places c p on more heeds)
    ended_places c p on false = subst (TellsPlaces (by.whole p) (at p).input.received (at p).consumed) (sym (append-nil (at c).input.made)) (fits.places c p on)

    -- what a stage that doesn't close has
    still : (F : Bool → List Mark → Type 0) (j : ℕ) → F (at j).closed (at j).marks.made → F ((at j).closed || false) ((at j).marks.made ++ [])
    still F j is = subst (λ (b : Bool). F b ((at j).marks.made ++ [])) (sym (or_none (at j).closed)) (subst (F (at j).closed) (sym (append-nil (at j).marks.made)) is)

    closed_marks : (j : ℕ) → Marks (by.whole j (Closed.stages j).consumed) (Closed.stages j).closed (Closed.stages j).marks.made
    closed_marks = at_place (λ j b. Marks (by.whole j (at j).consumed) ((at j).closed || b) ((at j).marks.made ++ (if b then EndMark ∷ [] else []))) i
        (close_marks (by.whole i (at i).consumed) (at i).marks.made (at i).closed ((at i).closed || true) asks.3 (or_all (at i).closed) (fits.marks i))
        (λ j. still (Marks (by.whole j (at j).consumed)) j (fits.marks j))

    pub close_fits : Fits parents by slots (after parents (Close i) state)
    close_fits =
        let hands = λ (j : ℕ). ended_hands (at j).input.made (slice_get parents j) (fits.hands j) in
        record {
          inputs = handed parents by slots state fits (Some i) (End ∷ []) ((λ _. refl), tt) (λ j on. inr (none_below i asks.3 j on));
          outputs = λ j. link_made ends_marks slots (at j).marks (fits.outputs j) (only i (EndMark ∷ []) j) (closed_marks j).last;
          takes = at_place (λ j b. Takes (at j).input.received (at j).consumed ((at j).closed || b)) i
              (record { front = (fits.takes i).front; all = λ _. (asks.0, asks.1) })
              (λ j. subst (Takes (at j).input.received (at j).consumed) (sym (or_none (at j).closed)) (fits.takes j));
          hands = hands;
          places = λ c p on. ended_places c p on (stands_on (slice_get parents c) (Some i));
          marks = closed_marks;
          floors = at_place (λ j b. Floors (by.whole j) (at j).input.received (at j).consumed ((at j).marks.made ++ (if b then EndMark ∷ [] else []))) i
              (λ more heeds. floors_end (at i).marks.made (marks_of (by.whole i ((at i).consumed ++ more))) (fits.floors i more heeds))
              (λ j. subst (Floors (by.whole j) (at j).input.received (at j).consumed) (sym (append-nil (at j).marks.made)) (fits.floors j));
          batched = at_place (λ j b. Batched (by.whole j) (by.near j) (at j).consumed (at j).told ((at j).closed || b) ((at j).marks.made ++ (if b then EndMark ∷ [] else []))) i
              (batched_close (by.whole i) (by.near i) (at i).consumed (at i).told (at i).closed (at i).marks.made (fits.batched i) ((at i).closed || true) asks.2 asks.3 (or_all (at i).closed))
              (λ j. still (Batched (by.whole j) (by.near j) (at j).consumed (at j).told) j (fits.batched j));
        }

  module _ (prefix : (j : ℕ) → KeepsFront (by.whole j)) (i : ℕ) (items : List Item) (new : List Out) (floor : Option ℕ) (asks : Asks parents by (Step i items new floor) state) where
    abbrev Stepped : State
    Stepped = after parents (Step i items new floor) state

    abbrev added : List Mark
    added = marks_of new ++ floor_mark floor

    -- what a child is made
    abbrev handed_on : List Feed
    handed_on = feeds_of new ++ floor_feed floor

    gave : (p : ℕ) → (made : List Feed) → without_places made ≡ due by.whole state (Some (Some p))
        → without_places (made ++ (if nat_eq p i then handed_on else [])) ≡ feeds_of (by.whole p ((at p).consumed ++ (if nat_eq p i then items else []))) ++ feed_end (at p).closed
    gave = at_place (λ p b. (made : List Feed) → without_places made ≡ due by.whole state (Some (Some p))
        → without_places (made ++ (if b then handed_on else [])) ≡ feeds_of (by.whole p ((at p).consumed ++ (if b then items else []))) ++ feed_end (at p).closed) i
        (λ made is. step_made (by.whole i) (at i).consumed items new floor (at i).closed asks.0 asks.2 made is)
        (λ p made is. ap without_places (append-nil made) ∙ is ∙ (λ k. feeds_of (by.whole p (sym (append-nil (at p).consumed) k)) ++ feed_end (at p).closed))

    gave_hands : (made : List Feed) (place : Option (Option ℕ)) → without_places made ≡ due by.whole state place
        → without_places (made ++ (if stands_on place (Some i) then handed_on else [])) ≡ due by.whole Stepped place
    gave_hands made None is = ap without_places (append-nil made) ∙ is
    gave_hands made (Some None) is = ap without_places (append-nil made) ∙ is
    gave_hands made (Some (Some p)) is = gave p made is

    -- the places that were told hold still, and so does the one that is told now
    gave_places : (p c : ℕ) → slice_get parents c ≡ Some (Some p) → TellsPlaces (by.whole p) (at p).input.received ((at p).consumed ++ (if nat_eq p i then items else [])) ((at c).input.made ++ (if nat_eq p i then handed_on else []))
    gave_places = at_place (λ p b. (c : ℕ) → slice_get parents c ≡ Some (Some p) → TellsPlaces (by.whole p) (at p).input.received ((at p).consumed ++ (if b then items else [])) ((at c).input.made ++ (if b then handed_on else []))) i
        (λ c on. places_step (by.whole i) (at i).input.received (at i).consumed items new floor (at c).input.made asks.2 (prefix i) (made_items (by.whole i (at i).consumed) (at i).closed (at c).input.made (fits.hands c ∙ ap (due by.whole state) on)) (λ start is. (asks.3 start is).0) (fits.places c i on))
        (λ p c on.
        subst (λ (l : List Item). TellsPlaces (by.whole p) (at p).input.received l ((at c).input.made ++ [])) (sym (append-nil (at p).consumed))
        (subst (TellsPlaces (by.whole p) (at p).input.received (at p).consumed) (sym (append-nil (at c).input.made)) (fits.places c p on)))

    -- what a stage that takes no step has
    stands : (F : List Item → List Mark → Type 0) (j : ℕ) → F (at j).consumed (at j).marks.made → F ((at j).consumed ++ []) ((at j).marks.made ++ [])
    stands F j is = subst (λ (l : List Item). F l ((at j).marks.made ++ [])) (sym (append-nil (at j).consumed)) (subst (F (at j).consumed) (sym (append-nil (at j).marks.made)) is)

    gave_marks : (j : ℕ) → Marks (by.whole j (Stepped.stages j).consumed) (Stepped.stages j).closed (Stepped.stages j).marks.made
    gave_marks = at_place (λ j b. Marks (by.whole j ((at j).consumed ++ (if b then items else []))) (at j).closed ((at j).marks.made ++ (if b then added else []))) i
        (step_marks (by.whole i) (at i).consumed items new floor (at i).closed asks.0 asks.2 (at i).marks.made (fits.marks i))
        (λ j. stands (λ ate made. Marks (by.whole j ate) (at j).closed made) j (fits.marks j))

    pub step_fits : Fits parents by slots (after parents (Step i items new floor) state)
    step_fits =
        let hands = λ (j : ℕ). gave_hands (at j).input.made (slice_get parents j) (fits.hands j) in
        record {
          inputs =
              handed parents by slots state fits (Some i) handed_on
              (subst (EndsLast ends_feed) (append-nil handed_on) (ends_last-append ends_feed handed_on [] (no_end_of_step new floor) tt)) (λ j on. inr (none_below i asks.0 j on));
          outputs = λ j. link_made ends_marks slots (at j).marks (fits.outputs j) (only i added j) (gave_marks j).last;
          takes = at_place (λ j b. Takes (at j).input.received ((at j).consumed ++ (if b then items else [])) (at j).closed) i
              (step_takes (by.whole i) (at i).consumed items new floor (at i).closed asks.0 asks.2 (at i).input.received asks.1)
              (λ j. subst (λ (l : List Item). Takes (at j).input.received l (at j).closed) (sym (append-nil (at j).consumed)) (fits.takes j));
          hands = hands;
          places = λ c p on.
              subst (λ (l : List Feed). TellsPlaces (by.whole p) (at p).input.received ((at p).consumed ++ (if nat_eq p i then items else [])) ((at c).input.made ++ l))
              (sym (ap (λ (o : Option (Option ℕ)). if stands_on o (Some i) then handed_on else []) on)) (gave_places p c on);
          marks = gave_marks;
          floors = at_place (λ j b. Floors (by.whole j) (at j).input.received ((at j).consumed ++ (if b then items else [])) ((at j).marks.made ++ (if b then added else []))) i
              (step_floors (by.whole i) (at i).consumed items new floor (at i).closed asks.0 asks.2 (prefix i) (at i).input.received (λ start is. (asks.3 start is).0) (at i).marks.made (fits.marks i) (fits.floors i))
              (λ j. stands (Floors (by.whole j) (at j).input.received) j (fits.floors j));
          batched = at_place (λ j b. Batched (by.whole j) (by.near j) ((at j).consumed ++ (if b then items else [])) (if b then is_floor floor else (at j).told) (at j).closed ((at j).marks.made ++ (if b then added else []))) i
              (batched_step (by.whole i) (by.near i) (at i).consumed (at i).told (at i).closed (at i).marks.made (fits.batched i) asks.0 items new asks.2 floor (λ start is. (asks.3 start is).1))
              (λ j. stands (λ ate made. Batched (by.whole j) (by.near j) ate (at j).told (at j).closed made) j (fits.batched j));
        }
