-- What a stage has once it takes, closes and steps, by what it had.
use Rattle.std.proofs.Common.{◌≡◌, ℕ, Bool, true, false, ◌||◌, List, [], ◌∷◌, ◌++◌, length, Option, Some, None, refl, sym, ◌∙◌, ap, subst, append_assoc, append-nil}
use Rattle.la_base.specs.declared.wires.Feed.{Feed}
use Rattle.la_base.specs.declared.wires.Feed.TheVariants.{End}
use Rattle.la_base.specs.declared.wires.Mark.{Mark}
use Rattle.la_base.specs.declared.wires.Mark.TheVariants.{End as EndMark}
use Rattle.la_base.specs.declared.wires.Out.{Out}
use Rattle.decoder_core.specs.Inputs.{Item}
use Rattle.decoder_core.specs.Marks.{shown, FloorsHold}
use Rattle.tree_io.specs.Feeds.{marks_of}
use Rattle.decoder_core.specs.Packets.{IsFloorOver}
use Rattle.decoder_core.specs.Promises.{KeepsFront}
use Rattle.tree_io.proofs.Taking.{marks-append}
use Rattle.tree_runs.proofs.Lists.{shown-append, shown_front, floors-append, marks_from}
use Rattle.stack_laws.specs.Links.{IsFront, EndsLast, some}
use Rattle.stack_laws.specs.Feeds.{ends_feed, ends_marks, feed_end, items_in, feeds_of, floor_feed, floor_mark}
use Rattle.stack_laws.specs.Heeding.{Heeds, above_in, without_places}
use Rattle.stack_laws.specs.Keeping.{Takes, Marks, Floors}
use Rattle.stack_laws.proofs.Lists.{some-append, ends_last-append, front_more}
use Rattle.stack_laws.proofs.Wires.{items-append, feeds-append, no_end_of_marks}
use Rattle.stack_laws.proofs.Heeding.{above_heeds, made_ends, no_end_of_step, plain-append, plain_step}

-- marks and more marks, behind no End
marks_more : (outs new : List Out) (made marks : List Mark) (closed now : Bool) → closed ≡ false → Marks outs closed made
    → (all : List Out) → all ≡ outs ++ new → shown marks ≡ marks_of new → EndsLast ends_marks marks → some ends_marks marks ≡ now → Marks all now (made ++ marks)
marks_more outs new made marks closed now none had all is shows last ends =
    let no_end : some ends_marks made ≡ false = had.ends ∙ none in
    record {
      shows = shown-append made marks ∙ (λ i. had.shows i ++ shows i) ∙ sym (marks-append outs new) ∙ ap marks_of (sym is);
      last = ends_last-append ends_marks made marks no_end last;
      ends = some-append ends_marks made marks ∙ ap (λ (b : Bool). b || some ends_marks marks) no_end ∙ ends;
    }

-- what it takes is behind what it has consumed
pub take_takes : (received : List Feed) (consumed : List Item) (closed : Bool) (feed : Feed) → closed ≡ false → Takes received consumed closed → Takes (received ++ feed ∷ []) consumed closed
take_takes received consumed closed feed going takes = record {
  front = subst (IsFront consumed) (sym (items-append received (feed ∷ []))) (front_more consumed (items_in received) (items_in (feed ∷ [])) takes.front);
  all = λ is. let no : true ≡ false = sym is ∙ going in absurd cc;
}

-- it closes
pub close_marks : (outs : List Out) (made : List Mark) (closed now : Bool) → closed ≡ false → now ≡ true → Marks outs closed made → Marks outs now (made ++ EndMark ∷ [])
close_marks outs made closed now going ends had = marks_more outs [] made (EndMark ∷ []) closed now going had outs (sym (append-nil outs)) refl ((λ _. refl), tt) (sym ends)

-- a child is owed End behind all packets
pub close_feeds : (outs : List Out) (closed now : Bool) → closed ≡ false → now ≡ true → (feeds_of outs ++ feed_end closed) ++ End ∷ [] ≡ feeds_of outs ++ feed_end now
close_feeds outs closed now going ends = (λ k. (feeds_of outs ++ feed_end (going k)) ++ End ∷ []) ∙ (λ k. append-nil (feeds_of outs) k ++ feed_end (sym ends k))

pub close_made : (outs : List Out) (closed now : Bool) → closed ≡ false → now ≡ true → (made : List Feed) → without_places made ≡ feeds_of outs ++ feed_end closed → without_places (made ++ End ∷ []) ≡ feeds_of outs ++ feed_end now
close_made outs closed now going ends made is = plain-append made (End ∷ []) ∙ ap (λ (l : List Feed). l ++ End ∷ []) is ∙ close_feeds outs closed now going ends

pub close_last : (outs : List Out) (closed : Bool) → closed ≡ false → (made : List Feed) → without_places made ≡ feeds_of outs ++ feed_end closed → EndsLast ends_feed (made ++ End ∷ [])
close_last outs closed going made is = ends_last-append ends_feed made (End ∷ []) (made_ends outs closed made is ∙ going) ((λ _. refl), tt)

-- it consumes items, which give outputs, with a floor behind them or none
module _ (whole : List Item → List Out) (consumed items : List Item) (new : List Out) (floor : Option ℕ) (closed : Bool) (going : closed ≡ false) (adds : whole (consumed ++ items) ≡ whole consumed ++ new) where
  abbrev added : List Mark
  added = marks_of new ++ floor_mark floor

  pub step_takes : (received : List Feed) → IsFront (consumed ++ items) (items_in received) → Takes received (consumed ++ items) closed
  step_takes received front = record { front = front; all = λ is. let no : true ≡ false = sym is ∙ going in absurd cc }

  plain : shown added ≡ marks_of new
  plain = shown-append (marks_of new) (floor_mark floor) ∙ (λ k. (shown_front true (marks_of new) new refl).0 k ++ none floor k) ∙ append-nil (marks_of new)
    where
      none : (floor : Option ℕ) → shown (floor_mark floor) ≡ []
      none None = refl
      none (Some start) = refl

  pub step_marks : (made : List Mark) → Marks (whole consumed) closed made → Marks (whole (consumed ++ items)) closed (made ++ added)
  step_marks made had =
      let no_end = no_end_of_marks new floor in
      marks_more (whole consumed) new made added closed closed going had (whole (consumed ++ items)) adds plain
      (subst (EndsLast ends_marks) (append-nil added) (ends_last-append ends_marks added [] no_end tt)) (no_end ∙ sym going)

  -- the floors that were made before hold of what is given now and later; and the one that joins them holds of what is given later
  pub step_floors : KeepsFront whole → (received : List Feed) → ((start : ℕ) → floor ≡ Some start → IsFloorOver (above_in received (length (consumed ++ items))) whole (consumed ++ items) start)
      → (made : List Mark) → Marks (whole consumed) closed made → Floors whole received consumed made → Floors whole received (consumed ++ items) (made ++ added)
  step_floors prefix received may made had floors more heeds =
      let grows = prefix (consumed ++ items) more in
      let all : marks_of (whole ((consumed ++ items) ++ more)) ≡ shown made ++ (marks_of new ++ marks_of grows.0) =
      ap marks_of (grows.1 ∙ (λ k. adds k ++ grows.0) ∙ append_assoc (whole consumed) new grows.0) ∙ marks-append (whole consumed) (new ++ grows.0) ∙ (λ k. sym had.shows k ++ marks-append new grows.0 k) in
      let before : FloorsHold made (shown made ++ (marks_of new ++ marks_of grows.0)) =
      subst (FloorsHold made) (ap (λ (l : List Item). marks_of (whole l)) (sym (append_assoc consumed items more)) ∙ all) (floors (items ++ more) (subst (Heeds received) (append_assoc consumed items more) heeds)) in
      let mine = shown_front true (marks_of new) new refl in
      let later : FloorsHold added (marks_of new ++ marks_of grows.0) =
      subst (λ (l : List Mark). FloorsHold added (l ++ marks_of grows.0)) mine.0 (floors-append (marks_of new) (floor_mark floor) (marks_of grows.0) (mine.2 _) (last floor may grows.0 grows.1)) in
      subst (FloorsHold (made ++ added)) (sym all) (floors-append made added (marks_of new ++ marks_of grows.0) before later)
    where
      last : (floor : Option ℕ) → ((start : ℕ) → floor ≡ Some start → IsFloorOver (above_in received (length (consumed ++ items))) whole (consumed ++ items) start) → (rest : List Out)
          → whole ((consumed ++ items) ++ more) ≡ whole (consumed ++ items) ++ rest → FloorsHold (floor_mark floor) (marks_of rest)
      last None may rest grows = tt
      last (Some start) may rest grows = (marks_from start rest (may start refl more rest (above_heeds received (consumed ++ items) more heeds) grows).0, tt)

  -- a child is owed the packets that are given now
  pub step_feeds : (feeds_of (whole consumed) ++ feed_end closed) ++ feeds_of new ≡ feeds_of (whole (consumed ++ items)) ++ feed_end closed
  step_feeds =
      let outs = whole consumed in
      (λ k. (feeds_of outs ++ feed_end (going k)) ++ feeds_of new)
      ∙ (λ k. append-nil (feeds_of outs) k ++ feeds_of new)
      ∙ sym (feeds-append outs new)
      ∙ sym (append-nil (feeds_of (outs ++ new)))
      ∙ (λ k. feeds_of (sym adds k) ++ feed_end (sym going k))

  pub step_made : (made : List Feed) → without_places made ≡ feeds_of (whole consumed) ++ feed_end closed → without_places (made ++ (feeds_of new ++ floor_feed floor)) ≡ feeds_of (whole (consumed ++ items)) ++ feed_end closed
  step_made made is = plain-append made (feeds_of new ++ floor_feed floor) ∙ (λ k. is k ++ plain_step new floor k) ∙ step_feeds

  pub step_last : (made : List Feed) → without_places made ≡ feeds_of (whole consumed) ++ feed_end closed → EndsLast ends_feed (made ++ (feeds_of new ++ floor_feed floor))
  step_last made is =
      let more = feeds_of new ++ floor_feed floor in
      ends_last-append ends_feed made more (made_ends (whole consumed) closed made is ∙ going)
      (subst (EndsLast ends_feed) (append-nil more) (ends_last-append ends_feed more [] (no_end_of_step new floor) tt))
