-- The events of a stage keep what it knows by itself.
use Rattle.std.proofs.Common.{◌≡◌, ℕ, true, ◌||◌, List, [], ◌∷◌, ◌++◌, slice_get, Option, Some, sym, ◌∙◌, subst, append-nil, if◌then◌else◌}
use Rattle.la_base.specs.declared.wires.Feed.{Feed}
use Rattle.la_base.specs.declared.wires.Feed.TheVariants.{End}
use Rattle.la_base.specs.declared.wires.Mark.{Mark}
use Rattle.la_base.specs.declared.wires.Mark.TheVariants.{End as EndMark}
use Rattle.la_base.specs.declared.wires.Out.{Out}
use Rattle.decoder_core.specs.Inputs.{Item}
use Rattle.tree_io.specs.Feeds.{marks_of}
use Rattle.decoder_core.specs.Promises.{KeepsFront}
use Rattle.decoder_core.specs.Trees.{packets_of}
use Rattle.tree_runs.specs.Machines.{Definitions}
use Rattle.tree_runs.specs.Passing.{only}
use Rattle.stack_laws.specs.Links.{EndsLast, IsFront}
use Rattle.stack_laws.specs.Running.{State, Stage}
use Rattle.stack_laws.specs.Feeds.{ends_feed, feed_end, feeds_of, floor_feed, floor_mark, is_floor}
use Rattle.stack_laws.specs.Heeding.{Heeds, TellsPlaces, without_places}
use Rattle.stack_laws.specs.Events.{Read, Hear, Root, Take, Close, Step, Give, Tell, Gather, Print, Asks, after, to}
use Rattle.stack_laws.specs.Legal.{Own}
use Rattle.stack_laws.specs.Keeping.{Takes, Marks, Floors, Batched}
use Rattle.stack_laws.specs.Owning.{StageKeepsItsOwn}
use Rattle.stack_laws.proofs.Lists.{front_more, front_next}
use Rattle.stack_laws.proofs.Places.{at_place, at_self, or_all, to_child}
use Rattle.stack_laws.proofs.Floors.{floors_end}
use Rattle.stack_laws.proofs.Batching.{batched_close, batched_step}
use Rattle.stack_laws.proofs.Heeding.{heeds_front, made_items, places_close, places_step}
use Rattle.stack_laws.proofs.Staging.{take_takes, close_last, close_made, close_marks, step_last, step_made, step_takes, step_marks, step_floors}

module _ (parents : List (Option ℕ)) (by : Definitions) (state : State) (i : ℕ) (own : Own parents by i state) where
  abbrev now : Stage
  now = state.stages i

  take_own : (feed : Feed) → Asks parents by (Take i feed) state → Own parents by i (after parents (Take i feed) state)
  take_own feed asks = record {
    takes = at_self (λ b. Takes (now.input.received ++ (if b then feed ∷ [] else [])) now.consumed now.closed) i (take_takes now.input.received now.consumed now.closed feed asks.0 own.takes);
    marks = own.marks;
    tells = own.tells;
    floors = at_self (λ b. Floors (by.whole i) (now.input.received ++ (if b then feed ∷ [] else [])) now.consumed now.marks.made) i
        (λ more heeds. own.floors more (heeds_front now.input.received (feed ∷ []) (now.consumed ++ more) heeds));
    batched = own.batched;
    made = own.made;
    places = λ child at.
        at_self (λ b. TellsPlaces (by.whole i) (now.input.received ++ (if b then feed ∷ [] else [])) now.consumed (state.stages child).input.made) i
        (λ more heeds. own.places child at more (heeds_front now.input.received (feed ∷ []) (now.consumed ++ more) heeds));
    last = own.last;
    gives = own.gives;
  }

  close_own : Asks parents by (Close i) state → Own parents by i (after parents (Close i) state)
  close_own asks =
      let outs = by.whole i now.consumed in
      let ends = or_all now.closed in
      record {
        takes = record { front = own.takes.front; all = λ _. (asks.0, asks.1) };
        marks = at_self (λ b. Marks outs (now.closed || b) (now.marks.made ++ (if b then EndMark ∷ [] else []))) i (close_marks outs now.marks.made now.closed (now.closed || true) asks.3 ends own.marks);
        tells = front_more now.marks.sent now.marks.made (only i (EndMark ∷ []) i) own.tells;
        floors = at_self (λ b. Floors (by.whole i) now.input.received now.consumed (now.marks.made ++ (if b then EndMark ∷ [] else []))) i
            (λ more heeds. floors_end now.marks.made (marks_of (by.whole i (now.consumed ++ more))) (own.floors more heeds));
        batched = at_self (λ b. Batched (by.whole i) (by.near i) now.consumed now.told (now.closed || b) (now.marks.made ++ (if b then EndMark ∷ [] else []))) i
            (batched_close (by.whole i) (by.near i) now.consumed now.told now.closed now.marks.made own.batched (now.closed || true) asks.2 asks.3 ends);
        made = λ child at.
            (λ k. without_places ((state.stages child).input.made ++ to_child parents i child (End ∷ []) at k))
            ∙ at_self (λ b. without_places ((state.stages child).input.made ++ End ∷ []) ≡ feeds_of outs ++ feed_end (now.closed || b)) i (close_made outs now.closed (now.closed || true) asks.3 ends (state.stages child).input.made (own.made child at));
        places = λ child at more heeds.
            subst (λ (l : List Feed). Heeds ((state.stages child).input.made ++ l) (packets_of (by.whole i (now.consumed ++ more)))) (sym (to_child parents i child (End ∷ []) at))
            (places_close (state.stages child).input.made (packets_of (by.whole i (now.consumed ++ more))) (own.places child at more heeds));
        last = λ child at.
            subst (λ (l : List Feed). EndsLast ends_feed ((state.stages child).input.made ++ l)) (sym (to_child parents i child (End ∷ []) at)) (close_last outs now.closed asks.3 (state.stages child).input.made (own.made child at));
        gives = λ child at. front_more (state.stages child).input.sent (state.stages child).input.made (to parents (Some i) (End ∷ []) child) (own.gives child at);
      }

  step_own : KeepsFront (by.whole i) → (items : List Item) (new : List Out) (floor : Option ℕ) → Asks parents by (Step i items new floor) state → Own parents by i (after parents (Step i items new floor) state)
  step_own prefix items new floor asks =
      let added = marks_of new ++ floor_mark floor in
      let told = feeds_of new ++ floor_feed floor in
      record {
        takes = at_self (λ b. Takes now.input.received (now.consumed ++ (if b then items else [])) now.closed) i
            (step_takes (by.whole i) now.consumed items new floor now.closed asks.0 asks.2 now.input.received asks.1);
        marks = at_self (λ b. Marks (by.whole i (now.consumed ++ (if b then items else []))) now.closed (now.marks.made ++ (if b then added else []))) i
            (step_marks (by.whole i) now.consumed items new floor now.closed asks.0 asks.2 now.marks.made own.marks);
        tells = front_more now.marks.sent now.marks.made (only i added i) own.tells;
        floors = at_self (λ b. Floors (by.whole i) now.input.received (now.consumed ++ (if b then items else [])) (now.marks.made ++ (if b then added else []))) i
            (step_floors (by.whole i) now.consumed items new floor now.closed asks.0 asks.2 prefix now.input.received (λ start is. (asks.3 start is).0) now.marks.made own.marks own.floors);
        batched = at_self (λ b. Batched (by.whole i) (by.near i) (now.consumed ++ (if b then items else [])) (if b then is_floor floor else now.told) now.closed (now.marks.made ++ (if b then added else []))) i
            (batched_step (by.whole i) (by.near i) now.consumed now.told now.closed now.marks.made own.batched asks.0 items new asks.2 floor (λ start is. (asks.3 start is).1));
        made = λ child at.
            (λ k. without_places ((state.stages child).input.made ++ to_child parents i child told at k))
            ∙ at_self (λ b. without_places ((state.stages child).input.made ++ told) ≡ feeds_of (by.whole i (now.consumed ++ (if b then items else []))) ++ feed_end now.closed) i
            (step_made (by.whole i) now.consumed items new floor now.closed asks.0 asks.2 (state.stages child).input.made (own.made child at));
        places = λ child at.
            at_self (λ b. TellsPlaces (by.whole i) now.input.received (now.consumed ++ (if b then items else [])) ((state.stages child).input.made ++ to parents (Some i) told child)) i
            (subst (λ (l : List Feed). TellsPlaces (by.whole i) now.input.received (now.consumed ++ items) ((state.stages child).input.made ++ l)) (sym (to_child parents i child told at))
            (places_step (by.whole i) now.input.received now.consumed items new floor (state.stages child).input.made asks.2 prefix (made_items (by.whole i now.consumed) now.closed (state.stages child).input.made (own.made child at)) (λ start is. (asks.3 start is).0) (own.places child at)));
        last = λ child at.
            subst (λ (l : List Feed). EndsLast ends_feed ((state.stages child).input.made ++ l)) (sym (to_child parents i child told at)) (step_last (by.whole i) now.consumed items new floor now.closed asks.0 asks.2 (state.stages child).input.made (own.made child at));
        gives = λ child at. front_more (state.stages child).input.sent (state.stages child).input.made (to parents (Some i) told child) (own.gives child at);
      }

  give_own : (child : ℕ) (feed : Feed) → Asks parents by (Give i child feed) state → Own parents by i (after parents (Give i child feed) state)
  give_own child feed asks = record {
    takes = own.takes;
    marks = own.marks;
    tells = own.tells;
    floors = own.floors;
    batched = own.batched;
    made = own.made;
    places = own.places;
    last = own.last;
    gives = at_place (λ c b. slice_get parents c ≡ Some (Some i) → IsFront ((state.stages c).input.sent ++ (if b then feed ∷ [] else [])) (state.stages c).input.made) child
        (λ at. front_next (state.stages child).input.sent (state.stages child).input.made feed asks.1)
        (λ c at. subst (λ (l : List Feed). IsFront l (state.stages c).input.made) (sym (append-nil (state.stages c).input.sent)) (own.gives c at));
  }

  tell_own : (mark : Mark) → Asks parents by (Tell i mark) state → Own parents by i (after parents (Tell i mark) state)
  tell_own mark asks = record {
    takes = own.takes;
    marks = own.marks;
    tells = at_self (λ b. IsFront (now.marks.sent ++ (if b then mark ∷ [] else [])) now.marks.made) i (front_next now.marks.sent now.marks.made mark asks);
    floors = own.floors;
    batched = own.batched;
    made = own.made;
    places = own.places;
    last = own.last;
    gives = own.gives;
  }

-- the stage that an event is of
module _ (parents : List (Option ℕ)) (by : Definitions) (state new : State) (i j : ℕ) (same : j ≡ i) where
  of_same : (Own parents by j state → Own parents by j new) → Own parents by i state → Own parents by i new
  of_same keeps own = subst (λ (k : ℕ). Own parents by k new) same (keeps (subst (λ (k : ℕ). Own parents by k state) (sym same) own))

pub keeps_own : StageKeepsItsOwn
keeps_own parents by lawful i (Take j feed) same state own asks = of_same parents by state (after parents (Take j feed) state) i j same (λ o. take_own parents by state j o feed asks) own
keeps_own parents by lawful i (Close j) same state own asks = of_same parents by state (after parents (Close j) state) i j same (λ o. close_own parents by state j o asks) own
keeps_own parents by lawful i (Step j items new floor) same state own asks =
    of_same parents by state (after parents (Step j items new floor) state) i j same (λ o. step_own parents by state j o (lawful.prefix j) items new floor asks) own
keeps_own parents by lawful i (Give j child feed) same state own asks = of_same parents by state (after parents (Give j child feed) state) i j same (λ o. give_own parents by state j o child feed asks) own
keeps_own parents by lawful i (Tell j mark) same state own asks = of_same parents by state (after parents (Tell j mark) state) i j same (λ o. tell_own parents by state j o mark asks) own
keeps_own parents by lawful i (Read run) same state own asks = absurd same
keeps_own parents by lawful i Hear same state own asks = absurd same
keeps_own parents by lawful i (Root j feed) same state own asks = absurd same
keeps_own parents by lawful i (Gather j mark stops) same state own asks = absurd same
keeps_own parents by lawful i (Print entry stops) same state own asks = absurd same
