-- Moves keep what a stage has.
use Rattle.std.proofs.Common.{◌≡◌, ℕ, zero, suc, Bool, true, List, [], ◌∷◌, ◌++◌, map, refl}
use Rattle.std.specs.List.{All}
use Rattle.std.proofs.lemmas.List.Elements.{All-nil, All-cons, All-head, All-tail, All-weaker}
use Rattle.la_base.specs.declared.wires.Feed.{Feed}
use Rattle.la_base.specs.declared.wires.Feed.TheVariants.{End}
use Rattle.la_base.specs.declared.wires.Mark.TheVariants.{End as EndMark}
use Rattle.la_base.specs.declared.wires.Out.{Out}
use Rattle.decoder_core.specs.Inputs.{Item}
use Rattle.tree_io.specs.Feeds.{marks_of}
use Rattle.decoder_core.specs.Promises.{KeepsFront}
use Rattle.decoder_core.specs.Trees.{packets_of}
use Rattle.stack_laws.specs.Feeds.{feeds_of, floor_feed, floor_mark}
use Rattle.stack_laws.specs.Moves.{View, Sending, Move, TakeIn, CloseUp, StepOn, GiveTo, TellOut, makes, sends, sends_at, NextFor, MayMove, moved}
use Rattle.stack_laws.specs.Keeping.{Serves, Keeps, MovesKeep}
use Rattle.stack_laws.proofs.Lists.{front_more, front_next}
use Rattle.stack_laws.proofs.Floors.{floors_end}
use Rattle.stack_laws.proofs.Batching.{batched_close, batched_step}
use Rattle.stack_laws.proofs.Heeding.{heeds_front, made_items, places_close, places_step}
use Rattle.stack_laws.proofs.Staging.{take_takes, close_last, close_made, close_marks, step_last, step_made, step_takes, step_marks, step_floors}

-- each child has what it is served, of what it was served before
serves_all : (P Q : Sending Feed → Type 0) (more : Sending Feed → Sending Feed) → ((child : Sending Feed) → P child → Q (more child)) → (children : List (Sending Feed)) → All P children → All Q (map more children)
serves_all P Q more each [] all = All-nil Q
serves_all P Q more each (child ∷ children) all = All-cons Q (more child) (map more children) (each child (All-head P child children all)) (serves_all P Q more each children (All-tail P child children all))

-- the child at a place is sent the next of what was made for it
serves_next : (whole : List Item → List Out) (received : List Feed) (consumed : List Item) (closed : Bool) (n : ℕ) (feed : Feed) (children : List (Sending Feed)) → NextFor n feed children → All (Serves whole received consumed closed) children → All (Serves whole received consumed closed) (sends_at n feed children)
serves_next whole received consumed closed n feed [] next each = absurd next
serves_next whole received consumed closed zero feed (child ∷ children) next each =
    let S = Serves whole received consumed closed in
    let here = All-head S child children each in
    All-cons S (sends feed child) children (record { made = here.made; places = here.places; last = here.last; sends = front_next child.sent child.made feed next }) (All-tail S child children each)
serves_next whole received consumed closed (suc n) feed (child ∷ children) next each =
    let S = Serves whole received consumed closed in
    All-cons S child (sends_at n feed children) (All-head S child children each) (serves_next whole received consumed closed n feed children next (All-tail S child children each))

module _ (whole : List Item → List Out) (near : List Item → ℕ) (prefix : KeepsFront whole) where
  move_keeps : (move : Move) (view : View) → Keeps whole near view → MayMove whole near move view → Keeps whole near (moved move view)
  move_keeps (TakeIn feed) view keeps may = record {
    takes = take_takes view.received view.consumed view.closed feed may.0 keeps.takes;
    marks = keeps.marks;
    tells = keeps.tells;
    floors = λ more heeds. keeps.floors more (heeds_front view.received (feed ∷ []) (view.consumed ++ more) heeds);
    batched = keeps.batched;
    children =
        All-weaker (Serves whole view.received view.consumed view.closed) (Serves whole (view.received ++ feed ∷ []) view.consumed view.closed)
        (λ child serves. record { made = serves.made; places = λ more heeds. serves.places more (heeds_front view.received (feed ∷ []) (view.consumed ++ more) heeds); last = serves.last; sends = serves.sends }) view.children keeps.children;
  }
  move_keeps CloseUp view keeps may =
      let outs = whole view.consumed in
      record {
        takes = record { front = keeps.takes.front; all = λ is. (may.0, may.1) };
        marks = close_marks outs view.marks.made view.closed true may.3 refl keeps.marks;
        tells = front_more view.marks.sent view.marks.made (EndMark ∷ []) keeps.tells;
        floors = λ more heeds. floors_end view.marks.made (marks_of (whole (view.consumed ++ more))) (keeps.floors more heeds);
        batched = batched_close whole near view.consumed view.told view.closed view.marks.made keeps.batched true may.2 may.3 refl;
        children =
            serves_all (Serves whole view.received view.consumed view.closed) (Serves whole view.received view.consumed true) (makes (End ∷ []))
            (λ child serves. record {
              made = close_made outs view.closed true may.3 refl child.made serves.made;
              places = λ more heeds. places_close child.made (packets_of (whole (view.consumed ++ more))) (serves.places more heeds);
              last = close_last outs view.closed may.3 child.made serves.made;
              sends = front_more child.sent child.made (End ∷ []) serves.sends;
            }) view.children keeps.children;
      }
  move_keeps (StepOn items new floor) view keeps may = record {
    takes = step_takes whole view.consumed items new floor view.closed may.0 may.2 view.received may.1;
    marks = step_marks whole view.consumed items new floor view.closed may.0 may.2 view.marks.made keeps.marks;
    tells = front_more view.marks.sent view.marks.made (marks_of new ++ floor_mark floor) keeps.tells;
    floors = step_floors whole view.consumed items new floor view.closed may.0 may.2 prefix view.received (λ start is. (may.3 start is).0) view.marks.made keeps.marks keeps.floors;
    batched = batched_step whole near view.consumed view.told view.closed view.marks.made keeps.batched may.0 items new may.2 floor (λ start is. (may.3 start is).1);
    children =
        serves_all (Serves whole view.received view.consumed view.closed) (Serves whole view.received (view.consumed ++ items) view.closed) (makes (feeds_of new ++ floor_feed floor))
        (λ child serves. record {
          made = step_made whole view.consumed items new floor view.closed may.0 may.2 child.made serves.made;
          places = places_step whole view.received view.consumed items new floor child.made may.2 prefix (made_items (whole view.consumed) view.closed child.made serves.made) (λ start is. (may.3 start is).0) serves.places;
          last = step_last whole view.consumed items new floor view.closed may.0 may.2 child.made serves.made;
          sends = front_more child.sent child.made (feeds_of new ++ floor_feed floor) serves.sends;
        }) view.children keeps.children;
  }
  move_keeps (GiveTo n feed) view keeps may = record {
    takes = keeps.takes;
    marks = keeps.marks;
    tells = keeps.tells;
    floors = keeps.floors;
    batched = keeps.batched;
    children = serves_next whole view.received view.consumed view.closed n feed view.children may keeps.children;
  }
  move_keeps (TellOut mark) view keeps may = record {
    takes = keeps.takes;
    marks = keeps.marks;
    tells = front_next view.marks.sent view.marks.made mark may;
    floors = keeps.floors;
    batched = keeps.batched;
    children = keeps.children;
  }

pub moves_keep : MovesKeep
moves_keep whole near prefix [] view keeps may = keeps
moves_keep whole near prefix (move ∷ moves) view keeps may = moves_keep whole near prefix moves (moved move view) (move_keeps whole near prefix move view keeps may.0) may.1
