-- Where End was sent in a tree whose lists fit together, and how tied ends make such lists.
use Rattle.std.proofs.Common.{◌≡◌, ℕ, true, List, [], ◌++◌, slice_get, Option, Some, None, refl, sym, ◌∙◌, ap, subst}
use Rattle.tree_runs.specs.Machines.{Definitions}
use Rattle.stack_laws.specs.Links.{IsFront, EndsLast}
use Rattle.stack_laws.specs.Running.{State, Stage}
use Rattle.stack_laws.specs.Feeds.{ends_feed, ends_marks}
use Rattle.stack_laws.specs.Heeding.{without_places}
use Rattle.stack_laws.specs.Legal.{Fits, Own, due}
use Rattle.stack_laws.specs.Settling.{DriverOwn, EndIsSentLast, IsThrough, IsTied, TiedEndsFit}
use Rattle.stack_laws.proofs.Heeding.{plain_due}
use Rattle.stack_laws.proofs.Links.{due_last}
use Rattle.stack_laws.proofs.Coming.{came_over, end_last, parent_closed, root_over}

module _ (parents : List (Option ℕ)) (by : Definitions) (slots : ℕ) (state : State) where
  abbrev at : ℕ → Stage
  at j = state.stages j

  -- a stage that has closed has received End, and has consumed all
  through : Fits parents by slots state → (i : ℕ) → (at i).closed ≡ true → IsThrough state i
  through fits i closed = let came = (fits.takes i).all closed in record { received = came.0; consumed = came.1 }

  module _ (own : (i : ℕ) → Own parents by i state) (driver : DriverOwn parents state) (inputs : (i : ℕ) → IsTied slots (at i).input) (outputs : (i : ℕ) → IsTied slots (at i).marks) where
    -- what is made for an instance is due, End is its last, and a front of it was sent
    made_by : (i : ℕ) (place : Option (Option ℕ)) → slice_get parents i ≡ place → (without_places (at i).input.made ≡ due by.whole state place) × EndsLast ends_feed (at i).input.made × IsFront (at i).input.sent (at i).input.made
    made_by i None on = let none = driver.none i on in (ap without_places none.0, subst (EndsLast ends_feed) (sym none.0) tt, ([], none.0 ∙ (λ k. sym none.1 k ++ [])))
    made_by i (Some None) on = let made = driver.made i on in (ap without_places made ∙ plain_due by state, subst (EndsLast ends_feed) (sym made) (due_last by state (Some None)), driver.sends i on)
    made_by i (Some (Some p)) on = ((own p).made i on, (own p).last i on, (own p).gives i on)

    tied_fit : Fits parents by slots state
    tied_fit = record {
      inputs = λ i.
          let tied = inputs i in
          let made = made_by i (slice_get parents i) refl in
          record { sends = made.2; receives = tied.receives; room = tied.room; last = made.1 };
      outputs = λ i. let tied = outputs i in record { sends = (own i).tells; receives = tied.receives; room = tied.room; last = (own i).marks.last };
      takes = λ i. (own i).takes;
      hands = λ i. (made_by i (slice_get parents i) refl).0;
      places = λ i parent on. (own parent).places i on;
      marks = λ i. (own i).marks;
      floors = λ i. (own i).floors;
      batched = λ i. (own i).batched;
    }

pub sends_end_last : EndIsSentLast
sends_end_last parents by slots lawful state fits = record {
  child = λ i p on has.
      let end = end_last ends_feed slots (state.stages i).input (fits.inputs i) has in
      (through parents by slots state fits p (sym (parent_closed parents by slots state fits i p on) ∙ end.0), end.1);
  marks = λ i has.
      let end = end_last ends_marks slots (state.stages i).marks (fits.outputs i) has in
      (through parents by slots state fits i (sym (fits.marks i).ends ∙ end.0), end.1);
  root = λ i on has.
      let end = end_last ends_feed slots (state.stages i).input (fits.inputs i) has in
      (sym (root_over parents by slots state fits i on) ∙ end.0, end.1);
  over = came_over parents by slots state fits lawful.forest;
}

pub tied_ends : TiedEndsFit
tied_ends parents by slots state own driver inputs outputs = tied_fit parents by slots state own driver inputs outputs
