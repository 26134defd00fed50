-- Any first marks of a stage are marks of a run.
use Rattle.std.proofs.Common.{◌≡◌, ℕ, Bool, true, false, List, [], ◌∷◌, ◌++◌, refl, sym, ◌∙◌, ap, subst, append_assoc, append-nil, arith}
use Rattle.la_base.specs.declared.wires.Feed.{Feed}
use Rattle.la_base.specs.declared.wires.Mark.{Mark}
use Rattle.la_base.specs.declared.wires.Mark.TheVariants.{Note as NoteMark, Piece as PieceMark, Floor as FloorMark, End as EndMark}
use Rattle.la_base.specs.declared.wires.Out.{Out}
use Rattle.tree_io.specs.Feeds.{together}
use Rattle.tree_io.proofs.Together.{together-last}
use Rattle.decoder_core.specs.Inputs.{Item}
use Rattle.decoder_core.specs.Marks.{shown, FloorsHold}
use Rattle.tree_io.specs.Feeds.{marks_of}
use Rattle.decoder_core.specs.Promises.{GivesNothing, KeepsFront}
use Rattle.decoder_core.specs.declared.end.RunEnd.{RunEnd}
use Rattle.decoder_core.specs.declared.end.RunEnd.TheVariants.{Ended}
use Rattle.tree_runs.proofs.Batches.{with_none}
use Rattle.tree_io.proofs.Taking.{marks-append}
use Rattle.tree_runs.proofs.Lists.{shown-append}
use Rattle.tree_runs.specs.Floors.{FrontOfFloored}
use Rattle.tree_runs.specs.Passing.{NoEnd}
use Rattle.stack_laws.specs.Links.{IsFront, EndsLast, some}
use Rattle.stack_laws.specs.Feeds.{ends_marks, mark_end}
use Rattle.stack_laws.specs.Heeding.{Heeds}
use Rattle.stack_laws.specs.Keeping.{Batched, Floors, Marks}
use Rattle.stack_laws.specs.Settling.{TellsRun}
use Rattle.stack_laws.proofs.Lists.{none_behind, or_false}
use Rattle.stack_laws.proofs.Batching.{batch_more, whole_batches}

-- no End is among marks that don't pass its test, nor before one that is the last
no_end_among : (marks : List Mark) → some ends_marks marks ≡ false → NoEnd marks
no_end_among [] none = tt
no_end_among (NoteMark note ∷ marks) none = no_end_among marks none
no_end_among (PieceMark piece ∷ marks) none = no_end_among marks none
no_end_among (FloorMark start ∷ marks) none = no_end_among marks none
no_end_among (EndMark ∷ marks) none = absurd cc

no_end_before : (marks : List Mark) → EndsLast ends_marks (marks ++ EndMark ∷ []) → NoEnd marks
no_end_before [] last = tt
no_end_before (NoteMark note ∷ marks) last = no_end_before marks last.1
no_end_before (PieceMark piece ∷ marks) last = no_end_before marks last.1
no_end_before (FloorMark start ∷ marks) last = no_end_before marks last.1
no_end_before (EndMark ∷ marks) last = absurd (some_there marks (last.0 refl))
  where
    some_there : (marks : List Mark) → marks ++ EndMark ∷ [] ≡ [] → ⊥
    some_there [] none = cc
    some_there (mark ∷ marks) none = cc

-- first marks with no End among them are of those before it
front_before : (marks all : List Mark) (closed : Bool) → IsFront marks (all ++ mark_end closed) → some ends_marks marks ≡ false → IsFront marks all
front_before [] all closed front none = (all, refl)
front_before (mark ∷ marks) [] false front none = absurd (let no : [] ≡ mark ∷ (marks ++ front.0) = front.1 in cc)
front_before (mark ∷ marks) [] true front none =
    let is : EndMark ∷ [] ≡ mark ∷ (marks ++ front.0) = front.1 in
    let same : EndMark ≡ mark = cc in
    let no : true ≡ false = ap ends_marks same ∙ (or_false ends_marks (ends_marks mark) (some ends_marks marks) none).0 in
    absurd cc
front_before (mark ∷ marks) (first ∷ all) closed front none =
    let is : first ∷ (all ++ mark_end closed) ≡ mark ∷ (marks ++ front.0) = front.1 in
    let same : first ≡ mark = cc in
    let rest = front_before marks all closed (front.0, cc) (or_false ends_marks (ends_marks mark) (some ends_marks marks) none).1 in
    (rest.0, λ k. same k ∷ rest.1 k)

floors_front : (marks more all : List Mark) → FloorsHold (marks ++ more) all → FloorsHold marks all
floors_front [] more all holds = tt
floors_front (NoteMark note ∷ marks) more all holds = floors_front marks more _ holds
floors_front (PieceMark piece ∷ marks) more all holds = floors_front marks more _ holds
floors_front (FloorMark start ∷ marks) more all holds = (holds.0, floors_front marks more all holds.1)
floors_front (EndMark ∷ marks) more all holds = floors_front marks more all holds

-- a stage that has made these marks of what it has consumed, and whose input has this rest behind that
module _ (whole : List Item → List Out) (near : List Item → ℕ) (nothing : GivesNothing whole) (prefix : KeepsFront whole) (received : List Feed) (consumed rest : List Item) (told closed : Bool) (made : List Mark)
    (shows : Marks (whole consumed) closed made) (floors : Floors whole received consumed made) (b : Batched whole near consumed told closed made)
    (later : List ℕ → List Item) (goes : (more : List ℕ) → (extra : List Item) × (later more ≡ consumed ++ extra) × Heeds received (later more)) where
  abbrev input : List Item
  input = consumed ++ rest

  abbrev outs : List Out
  outs = whole input

  adds_all : outs ≡ whole [] ++ outs
  adds_all = ap (λ (l : List Out). l ++ outs) (sym nothing)

  -- floors among first marks hold whatever samples come
  floors_of : (marks behind : List Mark) → made ≡ marks ++ behind → (more : List ℕ) (further : List Out) → whole (later more) ≡ whole [] ++ (outs ++ further) → FloorsHold marks (marks_of (outs ++ further))
  floors_of marks behind is more further now =
      let g = goes more in
      let gives : whole (consumed ++ g.0) ≡ outs ++ further = ap whole (sym g.1) ∙ now ∙ ap (λ (l : List Out). l ++ (outs ++ further)) nothing in
      floors_front marks behind (marks_of (outs ++ further))
      (subst (λ (l : List Mark). FloorsHold l (marks_of (outs ++ further))) is (subst (λ (l : List Out). FloorsHold made (marks_of l)) gives (floors g.0 (subst (Heeds received) g.1 g.2))))

  module _ (result : RunEnd) (at_end : Bool) (marks : List Mark) (front : IsFront marks made) where
    -- all marks, with End
    tells_all : some ends_marks marks ≡ true → (closed ≡ true → rest ≡ []) → at_end ≡ true → TellsRun result at_end whole near [] input later marks
    tells_all has through ended =
        let none : front.0 ≡ [] = none_behind ends_marks marks front.0 (subst (EndsLast ends_marks) front.1 shows.last) has in
        let all : made ≡ marks = front.1 ∙ ap (λ (l : List Mark). marks ++ l) none ∙ append-nil marks in
        let closes : closed ≡ true = sym shows.ends ∙ ap (some ends_marks) all ∙ has in
        let batches = whole_batches whole near consumed told closed made b (b.all_told closes) in
        let made_is : made ≡ b.front ++ EndMark ∷ [] = b.marks ∙ (λ k. b.front ++ (marks_of (batches.1 k) ++ mark_end (closes k))) in
        let no_rest : input ≡ consumed = ap (λ (l : List Item). consumed ++ l) (through closes) ∙ append-nil consumed in (
          b.batches,
          no_rest ∙ batches.0,
          record {
            body = b.front;
            closed = true;
            made = sym all ∙ made_is;
            tells =
                let no_end = no_end_before b.front (subst (EndsLast ends_marks) made_is shows.last) in
                record {
                  new = outs;
                  no_end = no_end;
                  adds = adds_all;
                  shows = sym (append-nil (shown b.front)) ∙ sym (shown-append b.front (EndMark ∷ [])) ∙ ap shown (sym made_is) ∙ shows.shows ∙ ap (λ (l : List Item). marks_of (whole l)) (sym no_rest);
                  floors = floors_of b.front (EndMark ∷ []) made_is;
                  plain = b.front;
                  more_floors = with_none b.front no_end;
                  floored = (b.front, refl, b.floored);
                };
            whole_at_end = λ _. ended;
            closes = λ _. refl;
          },
        )

    -- the last feed, where End isn't among the marks: what was consumed behind the last floor, and the rest
    abbrev last_feed : List Item
    last_feed = b.since ++ rest

    abbrev feeds : List (List Item)
    feeds = b.batches ++ last_feed ∷ []

    feeds_are : input ≡ together b.batches ++ last_feed
    feeds_are = ap (λ (l : List Item). l ++ rest) b.cut ∙ append_assoc (together b.batches) b.since rest

    -- such marks are the first of those of all feeds
    front_floored : some ends_marks marks ≡ false → FrontOfFloored false whole near [] feeds marks
    front_floored none =
        let grows = prefix consumed rest in
        let new = b.new ++ grows.0 in
        let floor = near (together b.batches ++ last_feed) in
        let adds : whole (together b.batches ++ last_feed) ≡ whole (together b.batches) ++ new =
        ap whole (sym feeds_are) ∙ grows.1 ∙ ap (λ (l : List Out). l ++ grows.0) b.adds ∙ append_assoc (whole (together b.batches)) b.new grows.0 in
        let before = front_before marks (b.front ++ marks_of b.new) closed (front.0, append_assoc b.front (marks_of b.new) (mark_end closed) ∙ sym b.marks ∙ front.1) none in
        let more = marks_of grows.0 ++ FloorMark floor ∷ [] in (
          b.front ++ (marks_of new ++ FloorMark floor ∷ []),
          (
            before.0 ++ more,
            sym (append_assoc marks before.0 more) ∙ ap (λ (l : List Mark). l ++ more) (sym before.1) ∙ append_assoc b.front (marks_of b.new) more
                ∙ ap (λ (l : List Mark). b.front ++ l) (sym (append_assoc (marks_of b.new) (marks_of grows.0) (FloorMark floor ∷ [])) ∙ ap (λ (l : List Mark). l ++ FloorMark floor ∷ []) (sym (marks-append b.new grows.0))),
          ),
          batch_more whole near b.batches last_feed b.front new floor b.floored adds (omega arith),
        )

    -- any first marks, without End
    tells_front : some ends_marks marks ≡ false → (result ≡ Ended → false ≡ true) → TellsRun result at_end whole near [] input later marks
    tells_front none whole_run =
        let grows = prefix consumed rest in (
          feeds,
          feeds_are ∙ sym (together-last b.batches last_feed),
          record {
            body = marks;
            closed = false;
            made = sym (append-nil marks);
            tells = record {
              new = outs;
              no_end = no_end_among marks none;
              adds = adds_all;
              shows = (
                shown front.0 ++ marks_of grows.0,
                sym (append_assoc (shown marks) (shown front.0) (marks_of grows.0))
                    ∙ ap (λ (l : List Mark). l ++ marks_of grows.0) (sym (shown-append marks front.0) ∙ ap shown (sym front.1) ∙ shows.shows)
                    ∙ sym (marks-append (whole consumed) grows.0) ∙ ap marks_of (sym grows.1),
              );
              floors = floors_of marks front.0 front.1;
              plain = marks;
              more_floors = with_none marks (no_end_among marks none);
              floored = front_floored none;
            };
            whole_at_end = λ is. absurd cc;
            closes = whole_run;
          },
        )

    pub tells_run : (closed ≡ true → rest ≡ []) → (some ends_marks marks ≡ true → at_end ≡ true) → (result ≡ Ended → some ends_marks marks ≡ true) → TellsRun result at_end whole near [] input later marks
    tells_run through ended whole_run = way (some ends_marks marks) refl
      where
        way : (has : Bool) → some ends_marks marks ≡ has → TellsRun result at_end whole near [] input later marks
        way true has = tells_all has through (ended has)
        way false none = tells_front none (λ is. sym none ∙ whole_run is)
