-- What the driver reads, sends and stops keeps a state fits.
use Rattle.std.proofs.Common.{◌≡◌, ◌⊎◌, inl, inr, ℕ, Bool, true, false, not, ◌||◌, List, [], ◌∷◌, ◌++◌, map, slice_get, Option, Some, None, refl, sym, ◌∙◌, ap, subst, append_assoc, if◌then◌else◌}
use Rattle.std.proofs.lemmas.List.{append-nil, map-append}
use Rattle.la_base.specs.declared.samples.Run.{Run}
use Rattle.la_base.specs.declared.wires.Feed.{Feed}
use Rattle.la_base.specs.declared.wires.Feed.TheVariants.{Run as RunFeed, End}
use Rattle.la_base.specs.declared.wires.Mark.{Mark}
use Rattle.tree_runs.specs.Machines.{Definitions}
use Rattle.stack_laws.specs.Links.{IsLink, IsNext, IsFree, EndsLast, some}
use Rattle.stack_laws.specs.Running.{State, is_over, stands_on}
use Rattle.stack_laws.specs.Feeds.{ends_feed, ends_marks, feed_end, feeds_of}
use Rattle.stack_laws.specs.Events.{Read, Hear, after, stop_if, to, sent_feed, sent_mark}
use Rattle.stack_laws.specs.Heeding.{TellsPlaces, without_places}
use Rattle.stack_laws.specs.Legal.{Fits, due}
use Rattle.stack_laws.proofs.Coming.{root_over}
use Rattle.stack_laws.proofs.Heeding.{plain-append, plain_end}
use Rattle.stack_laws.proofs.Links.{link_made, link_sent, link_sent_none}
use Rattle.stack_laws.proofs.Lists.{ends_last-append}
use Rattle.stack_laws.proofs.Wires.{feed_end_is}
use Rattle.stack_laws.proofs.Places.{at_place}

-- what is due hangs on what was fed, whether the feed is over, and the parents alone
pub due_same : (by : Definitions) (one other : State) (place : Option (Option ℕ)) → one.fed ≡ other.fed → is_over one ≡ is_over other
    → ((p : ℕ) → (one.stages p).consumed ≡ (other.stages p).consumed) → ((p : ℕ) → (one.stages p).closed ≡ (other.stages p).closed) → due by.whole one place ≡ due by.whole other place
due_same by one other None fed over ate closed = refl
due_same by one other (Some None) fed over ate closed = λ i. map RunFeed (fed i) ++ feed_end (over i)
due_same by one other (Some (Some p)) fed over ate closed = λ i. feeds_of (by.whole p (ate p i)) ++ feed_end (closed p i)

module _ (parents : List (Option ℕ)) (by : Definitions) (slots : ℕ) (state : State) (fits : Fits parents by slots state) where
  -- where feeds are made for those that stand on `above`, for whom no End was made yet, or none are made
  pub handed : (above : Option ℕ) (feeds : List Feed) → EndsLast ends_feed feeds → ((j : ℕ) → stands_on (slice_get parents j) above ≡ true → (feeds ≡ []) ⊎ (some ends_feed (state.stages j).input.made ≡ false))
      → (j : ℕ) → IsLink ends_feed slots (record (state.stages j).input { made = (state.stages j).input.made ++ to parents above feeds j })
  handed above feeds last none j = link_made ends_feed slots (state.stages j).input (fits.inputs j) (to parents above feeds j) (way (stands_on (slice_get parents j) above) refl)
    where
      made : List Feed
      made = (state.stages j).input.made

      as_was : (more : List Feed) → more ≡ [] → EndsLast ends_feed (made ++ more)
      as_was more is = subst (EndsLast ends_feed) (sym (ap (λ (l : List Feed). made ++ l) is ∙ append-nil made)) (fits.inputs j).last

      way : (b : Bool) → stands_on (slice_get parents j) above ≡ b → EndsLast ends_feed (made ++ (if b then feeds else []))
      way true on = elim (none j on) [ inl nothing ↦ as_was feeds nothing | inr going ↦ ends_last-append ends_feed made feeds going last ]
      way false off = as_was [] refl

  -- no End was made for a root while the feed isn't over
  none_yet : is_over state ≡ false → (j : ℕ) → stands_on (slice_get parents j) None ≡ true → some ends_feed (state.stages j).input.made ≡ false
  none_yet going j on = root_over parents by slots state fits j (root_is (slice_get parents j) on) ∙ going
    where
      root_is : (place : Option (Option ℕ)) → stands_on place None ≡ true → place ≡ Some None
      root_is None is = absurd cc
      root_is (Some None) is = refl
      root_is (Some (Some p)) is = absurd cc

  -- what is made for the roots is made for no other
  kept_places : (feeds : List Feed) (j p : ℕ) → slice_get parents j ≡ Some (Some p) → TellsPlaces (by.whole p) (state.stages p).input.received (state.stages p).consumed ((state.stages j).input.made ++ to parents None feeds j)
  kept_places feeds j p on =
      subst (TellsPlaces (by.whole p) (state.stages p).input.received (state.stages p).consumed)
      (sym (ap (λ (o : Option (Option ℕ)). (state.stages j).input.made ++ (if stands_on o None then feeds else [])) on ∙ append-nil (state.stages j).input.made)) (fits.places j p on)

  abbrev Reads : Option Run → State
  Reads run = after parents (Read run) state

  read_one : (run : Run) → is_over state ≡ false → (made : List Feed) (place : Option (Option ℕ)) → without_places made ≡ due by.whole state place
      → without_places (made ++ (if stands_on place None then RunFeed run ∷ [] else [])) ≡ due by.whole (Reads (Some run)) place
  read_one run going made None is = ap without_places (append-nil made) ∙ is
  read_one run going made (Some None) is =
      plain-append made (RunFeed run ∷ []) ∙ (λ i. is i ++ RunFeed run ∷ [])
      ∙ (λ i. (map RunFeed state.fed ++ feed_end (going i)) ++ RunFeed run ∷ [])
      ∙ ap (λ (l : List Feed). l ++ RunFeed run ∷ []) (append-nil (map RunFeed state.fed))
      ∙ sym (map-append RunFeed state.fed (run ∷ []))
      ∙ sym (append-nil (map RunFeed (state.fed ++ run ∷ [])))
      ∙ (λ i. map RunFeed (state.fed ++ run ∷ []) ++ feed_end (sym going i))
  read_one run going made (Some (Some p)) is = ap without_places (append-nil made) ∙ is

  read_none : is_over state ≡ false → (made : List Feed) (place : Option (Option ℕ)) → without_places made ≡ due by.whole state place
      → without_places (made ++ (if stands_on place None then End ∷ [] else [])) ≡ due by.whole (Reads None) place
  read_none going made None is = ap without_places (append-nil made) ∙ is
  read_none going made (Some None) is =
      plain-append made (End ∷ []) ∙ (λ i. is i ++ End ∷ [])
      ∙ (λ i. (map RunFeed state.fed ++ feed_end (going i)) ++ End ∷ [])
      ∙ ap (λ (l : List Feed). l ++ End ∷ []) (append-nil (map RunFeed state.fed))
  read_none going made (Some (Some p)) is = ap without_places (append-nil made) ∙ is

  pub read_fits : (run : Option Run) → is_over state ≡ false → Fits parents by slots (after parents (Read run) state)
  read_fits (Some run) going =
      let hands = λ (j : ℕ). read_one run going (state.stages j).input.made (slice_get parents j) (fits.hands j) in
      record {
        inputs = handed None (RunFeed run ∷ []) ((λ _. refl), tt) (λ j on. inr (none_yet going j on));
        outputs = fits.outputs;
        takes = fits.takes;
        hands = hands;
        places = kept_places (RunFeed run ∷ []);
        marks = fits.marks;
        floors = fits.floors;
        batched = fits.batched;
      }
  read_fits None going =
      let hands = λ (j : ℕ). read_none going (state.stages j).input.made (slice_get parents j) (fits.hands j) in
      record {
        inputs = handed None (End ∷ []) ((λ _. refl), tt) (λ j on. inr (none_yet going j on));
        outputs = fits.outputs;
        takes = fits.takes;
        hands = hands;
        places = kept_places (End ∷ []);
        marks = fits.marks;
        floors = fits.floors;
        batched = fits.batched;
      }

  -- a stop leaves all as it is, until it is heard
  pub stop_fits : (stops : Bool) → Fits parents by slots (stop_if parents stops state)
  stop_fits stops = record {
    inputs = fits.inputs;
    outputs = fits.outputs;
    takes = fits.takes;
    hands = λ j. fits.hands j ∙ due_same by state (stop_if parents stops state) (slice_get parents j) refl refl (λ p. refl) (λ p. refl);
    places = fits.places;
    marks = fits.marks;
    floors = fits.floors;
    batched = fits.batched;
  }

  abbrev Hears : State
  Hears = after parents Hear state

  -- a stop is heard: what was made is due where the feed was over, and End joins it where it wasn't
  hear_one : (ended heard : Bool) → feed_end (ended || heard) ++ feed_end (not (ended || heard)) ≡ feed_end (ended || true)
  hear_one true heard = refl
  hear_one false true = refl
  hear_one false false = refl

  hear_hands : (made : List Feed) (place : Option (Option ℕ)) → without_places made ≡ due by.whole state place
      → without_places (made ++ (if stands_on place None then feed_end (not (is_over state)) else [])) ≡ due by.whole Hears place
  hear_hands made None is = ap without_places (append-nil made) ∙ is
  hear_hands made (Some None) is =
      plain-append made (feed_end (not (is_over state))) ∙ (λ i. is i ++ plain_end (not (is_over state)) i)
      ∙ append_assoc (map RunFeed state.fed) (feed_end (is_over state)) (feed_end (not (is_over state)))
      ∙ (λ i. map RunFeed state.fed ++ hear_one state.ended state.heard i)
  hear_hands made (Some (Some p)) is = ap without_places (append-nil made) ∙ is

  -- End is made where none was, or nothing is
  hear_ends : (over : Bool) → is_over state ≡ over → (j : ℕ) → stands_on (slice_get parents j) None ≡ true → (feed_end (not (is_over state)) ≡ []) ⊎ (some ends_feed (state.stages j).input.made ≡ false)
  hear_ends true is j on = inl (λ i. feed_end (not (is i)))
  hear_ends false is j on = inr (none_yet is j on)

  pub hear_fits : Fits parents by slots (after parents Hear state)
  hear_fits =
      let hands = λ (j : ℕ). hear_hands (state.stages j).input.made (slice_get parents j) (fits.hands j) in
      record {
        inputs = handed None (feed_end (not (is_over state))) (feed_end_is (not (is_over state))).1 (hear_ends (is_over state) refl);
        outputs = fits.outputs;
        takes = fits.takes;
        hands = hands;
        places = kept_places (feed_end (not (is_over state)));
        marks = fits.marks;
        floors = fits.floors;
        batched = fits.batched;
      }

  abbrev Sends : ℕ → Feed → State
  Sends i feed = record state { stages = sent_feed i feed state.stages }

  -- what is kept for an instance is sent to it: the events Root and Give
  pub send_fits : (i : ℕ) (feed : Feed) → IsNext (state.stages i).input.sent feed (state.stages i).input.made → IsFree slots (state.stages i).input
      → Fits parents by slots (record state { stages = sent_feed i feed state.stages })
  send_fits i feed next free = record {
    inputs = at_place (λ j b. IsLink ends_feed slots (record (state.stages j).input { sent = (state.stages j).input.sent ++ (if b then feed ∷ [] else []) })) i
        (link_sent ends_feed slots (state.stages i).input (fits.inputs i) feed next free)
        (λ j. link_sent_none ends_feed slots (state.stages j).input (fits.inputs j));
    outputs = fits.outputs;
    takes = fits.takes;
    hands = λ j. fits.hands j ∙ due_same by state (Sends i feed) (slice_get parents j) refl refl (λ p. refl) (λ p. refl);
    places = fits.places;
    marks = fits.marks;
    floors = fits.floors;
    batched = fits.batched;
  }

  -- what is kept of marks is sent: the event Tell
  pub tell_fits : (i : ℕ) (mark : Mark) → IsNext (state.stages i).marks.sent mark (state.stages i).marks.made → IsFree slots (state.stages i).marks
      → Fits parents by slots (record state { stages = sent_mark i mark state.stages })
  tell_fits i mark next free = record {
    inputs = fits.inputs;
    outputs = at_place (λ j b. IsLink ends_marks slots (record (state.stages j).marks { sent = (state.stages j).marks.sent ++ (if b then mark ∷ [] else []) })) i
        (link_sent ends_marks slots (state.stages i).marks (fits.outputs i) mark next free)
        (λ j. link_sent_none ends_marks slots (state.stages j).marks (fits.outputs j));
    takes = fits.takes;
    hands = λ j. fits.hands j ∙ due_same by state (record state { stages = sent_mark i mark state.stages }) (slice_get parents j) refl refl (λ p. refl) (λ p. refl);
    places = fits.places;
    marks = fits.marks;
    floors = fits.floors;
    batched = fits.batched;
  }
