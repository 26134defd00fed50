-- What came to a stage, and what it has made, where the lists of a tree fit together.
use Rattle.std.proofs.Common.{◌≡◌, ℕ, zero, suc, ◌<◌, Bool, true, false, ◌||◌, List, [], ◌++◌, map, slice_get, Option, Some, None, refl, sym, ◌∙◌, ap, subst, arith, append-nil}
use Rattle.la_base.specs.declared.wires.Feed.TheVariants.{Run as RunFeed}
use Rattle.annot_merge.specs.Marks.{notes_in}
use Rattle.tree_runs.specs.Listings.{notes_of}
use Rattle.tree_runs.specs.Machines.{Definitions}
use Rattle.tree_runs.specs.Passing.{IsForest}
use Rattle.stack_laws.specs.Links.{Link, IsFront, IsLink, EndsLast, some}
use Rattle.stack_laws.specs.Running.{State, Stage, is_over}
use Rattle.stack_laws.specs.Feeds.{ends_feed, ends_marks, feed_end}
use Rattle.stack_laws.specs.Legal.{Fits, due}
use Rattle.stack_laws.specs.Settling.{IsEmptied}
use Rattle.stack_laws.proofs.Lists.{some-append, some_front, front_trans, none_behind}
use Rattle.stack_laws.proofs.Heeding.{made_ends, plain_some}
use Rattle.stack_laws.proofs.Wires.{no_end_of_runs, feed_end_is, notes_shown, notes_of_marks}

-- End is the last that was sent on a link
pub end_last : {T : Type 0} (is_end : T → Bool) (slots : ℕ) (link : Link T) → IsLink is_end slots link → some is_end link.sent ≡ true → (some is_end link.made ≡ true) × (link.sent ≡ link.made)
end_last {T} is_end slots link is has =
    let none : is.sends.0 ≡ [] = none_behind is_end link.sent is.sends.0 (subst (EndsLast is_end) is.sends.1 is.last) has in
    (some_front is_end link.sent link.made is.sends has, sym (is.sends.1 ∙ ap (λ (l : List T). link.sent ++ l) none ∙ append-nil link.sent))

-- what was received is a front of what was made
pub received_made : {T : Type 0} (is_end : T → Bool) (slots : ℕ) (link : Link T) → IsLink is_end slots link → IsFront link.received link.made
received_made is_end slots link is = front_trans link.received link.sent link.made is.receives is.sends

-- nothing lies on a link whose end was received, and nothing is kept for it
pub all_came : {T : Type 0} (is_end : T → Bool) (slots : ℕ) (link : Link T) → IsLink is_end slots link → some is_end link.received ≡ true → IsEmptied link
all_came {T} is_end slots link is has =
    let made = received_made is_end slots link is in
    let none : made.0 ≡ [] = none_behind is_end link.received made.0 (subst (EndsLast is_end) made.1 is.last) has in
    record {
      received = sym (made.1 ∙ ap (λ (l : List T). link.received ++ l) none ∙ append-nil link.received);
      sent = (end_last is_end slots link is (some_front is_end link.received link.sent is.receives has)).1;
    }

module _ (parents : List (Option ℕ)) (by : Definitions) (slots : ℕ) (state : State) (fits : Fits parents by slots state) where
  abbrev at : ℕ → Stage
  at j = state.stages j

  -- End was made for a root where the feed is over, and only there
  pub root_over : (i : ℕ) → slice_get parents i ≡ Some None → some ends_feed (at i).input.made ≡ is_over state
  root_over i on =
      sym (plain_some (at i).input.made) ∙ ap (some ends_feed) (fits.hands i ∙ ap (due by.whole state) on) ∙ some-append ends_feed (map RunFeed state.fed) (feed_end (is_over state))
      ∙ (λ k. no_end_of_runs state.fed k || (feed_end_is (is_over state)).0 k)

  -- and for any other stage where its parent has closed, and only there
  pub parent_closed : (i p : ℕ) → slice_get parents i ≡ Some (Some p) → some ends_feed (at i).input.made ≡ (at p).closed
  parent_closed i p on =
      made_ends (by.whole p (at p).consumed) (at p).closed (at i).input.made (fits.hands i ∙ ap (due by.whole state) on)

  module _ (forest : IsForest parents) where
    over_below : (n i : ℕ) → i < n → some ends_feed (at i).input.received ≡ true → is_over state ≡ true
    over_below zero i low came = absurd (omega (arith, low))
    over_below (suc n) i low came =
        let has = some_front ends_feed (at i).input.received (at i).input.made (received_made ends_feed slots (at i).input (fits.inputs i)) came in
        way (slice_get parents i) refl has (λ p less closed. over_below n p (omega (arith, less, low)) ((fits.takes p).all closed).0)
      where
        way : (place : Option (Option ℕ)) → slice_get parents i ≡ place → some ends_feed (at i).input.made ≡ true → ((p : ℕ) → p < i → (at p).closed ≡ true → is_over state ≡ true) → is_over state ≡ true
        way None on has parent = let no : false ≡ true = sym (ap (some ends_feed) (fits.hands i ∙ ap (due by.whole state) on)) ∙ plain_some (at i).input.made ∙ has in absurd cc
        way (Some None) on has parent = sym (root_over i on) ∙ has
        way (Some (Some p)) on has parent = parent p (forest i p on) (sym (parent_closed i p on) ∙ has)

    -- End comes to a stage only where the feed is over
    pub came_over : (i : ℕ) → some ends_feed (at i).input.received ≡ true → is_over state ≡ true
    came_over i came = over_below (suc i) i (omega arith) came

  -- what was gathered is a front of what was made
  pub made_of : (i : ℕ) → IsFront (at i).marks.received (at i).marks.made
  made_of i = received_made ends_marks slots (at i).marks (fits.outputs i)

  -- a stage of which End was gathered has closed
  pub ended_closed : (i : ℕ) → some ends_marks (at i).marks.received ≡ true → (at i).closed ≡ true
  ended_closed i has = sym (fits.marks i).ends ∙ some_front ends_marks (at i).marks.received (at i).marks.made (made_of i) has

  -- the notes that a stage's definition gives are those among the marks that it has made
  pub notes_made : (i : ℕ) → notes_of (by.whole i (at i).consumed) ≡ notes_in (at i).marks.made
  notes_made i = sym (notes_of_marks (by.whole i (at i).consumed)) ∙ ap notes_in (sym (fits.marks i).shows) ∙ notes_shown (at i).marks.made

  -- those that were gathered, where End was
  pub notes_ended : (i : ℕ) → some ends_marks (at i).marks.received ≡ true → notes_of (by.whole i (at i).consumed) ≡ notes_in (at i).marks.received
  notes_ended i has = notes_made i ∙ ap notes_in (sym (all_came ends_marks slots (at i).marks (fits.outputs i) has).received)
