-- Acts keep a state legal, since they are events.
use Rattle.std.proofs.Common.{◌≡◌, ℕ, ◌<◌, Bool, true, false, ◌||◌, List, [], ◌∷◌, ◌++◌, length, Option, Some, None, refl, sym, ◌∙◌, ap, subst, arith, append_assoc, append-nil, length-append, if◌then◌else◌}
use Rattle.std.specs.Prelude.{nat_eq}
use Rattle.std.proofs.lemmas.List.{append_cancel_left, length-map}
use Rattle.la_base.specs.Samples.{samples}
use Rattle.la_base.proofs.RunLemmas.{samples_len}
use Rattle.la_base.specs.declared.samples.Run.{Run}
use Rattle.la_base.specs.declared.wires.Feed.{Feed}
use Rattle.la_base.specs.declared.wires.Feed.TheVariants.{Run as RunFeed, Packet as PacketFeed, From, End}
use Rattle.decoder_core.specs.Inputs.{Item, Sample, items_of}
use Rattle.tree_runs.specs.Machines.{Definitions}
use Rattle.stack_laws.specs.Links.{some}
use Rattle.stack_laws.specs.Feeds.{ends_feed, items_in, is_floor}
use Rattle.stack_laws.specs.Heeding.{above_in}
use Rattle.stack_laws.specs.Moves.{MayTell}
use Rattle.stack_laws.specs.Running.{State, Stage, opening}
use Rattle.stack_laws.specs.Events.{Take, Close, MayAll, after, after_all, more_at}
use Rattle.stack_laws.specs.Acts.{Act, DoRead, DoRoot, DoTake, DoStep, DoGive, DoTell, DoGather, DoPrint, MayAct, MayActAll, acted_all, events_in, floor_behind}
use Rattle.stack_laws.specs.Legal.{Legal}
use Rattle.stack_laws.specs.Keeping.{Takes}
use Rattle.stack_laws.specs.Laws.{IsLawful, ActsKeepLegal}
use Rattle.stack_laws.proofs.Lists.{some-append}
use Rattle.stack_laws.proofs.Wires.{items-append}
use Rattle.stack_laws.proofs.Places.{at_place, at_self}
use Rattle.stack_laws.proofs.Keeping.{keep_on, opening_legal}

-- the items of what ends a feed
end_items : (feed : Feed) → ends_feed feed ≡ true → items_of feed ≡ []
end_items (RunFeed run) is = absurd cc
end_items (PacketFeed packet) is = absurd cc
end_items (From start) is = absurd cc
end_items End is = refl

-- a stage that hasn't received End hasn't closed
not_closed : (received : List Feed) (consumed : List Item) (closed : Bool) → Takes received consumed closed → some ends_feed received ≡ false → closed ≡ false
not_closed received consumed true takes none = let no : true ≡ false = sym (takes.all refl).0 ∙ none in absurd cc
not_closed received consumed false takes none = refl

-- nor has one whose rest isn't empty
rest_open : (received : List Feed) (consumed items left : List Item) (closed : Bool) → Takes received consumed closed → items_in received ≡ consumed ++ (items ++ left) → 0 < length items → closed ≡ false
rest_open received consumed items left true takes is more =
    let none : items ++ left ≡ [] = append_cancel_left consumed (items ++ left) [] (sym is ∙ sym (takes.all refl).1 ∙ sym (append-nil consumed)) in
    absurd (omega (arith, more, length-append items left, ap length none))
rest_open received consumed items left false takes is more = refl

-- a feed with items leaves some that aren't consumed
left_some : (received : List Feed) (feed : Feed) (consumed : List Item) → consumed ≡ items_in received → 0 < length (items_of feed) → consumed ≡ items_in (received ++ feed ∷ []) → ⊥
left_some received feed consumed all more is =
    let none : items_of feed ++ [] ≡ [] =
    append_cancel_left (items_in received) (items_of feed ++ []) [] (sym (items-append received (feed ∷ [])) ∙ sym is ∙ all ∙ sym (append-nil (items_in received))) in
    omega (arith, more, length-append (items_of feed) [], ap length none)

run_some : (run : Run) → 0 < length (items_of (RunFeed run))
run_some run = let some = run.not_empty in omega (arith, some, length-map (samples run) Sample, samples_len run)

or_true : (b : Bool) → (b || true) ≡ true
or_true true = refl
or_true false = refl

-- a stage that has consumed all that it received has told a floor behind that
abbrev HaveTold : State → Type 0
HaveTold state = (j : ℕ) → (state.stages j).consumed ≡ items_in (state.stages j).input.received → (state.stages j).told ≡ true

module _ (parents : List (Option ℕ)) (by : Definitions) (slots : ℕ) (state : State) (had : HaveTold state) where
  abbrev at : ℕ → Stage
  at j = state.stages j

  take_tells : (i : ℕ) (feed : Feed) → ((at i).consumed ≡ items_in ((at i).input.received ++ feed ∷ []) → (at i).told ≡ true)
      → (j : ℕ) → (at j).consumed ≡ items_in (more_at i (feed ∷ []) j (at j).input.received) → (at j).told ≡ true
  take_tells i feed here =
      at_place (λ j b. (at j).consumed ≡ items_in ((at j).input.received ++ (if b then feed ∷ [] else [])) → (at j).told ≡ true) i here
      (λ j is. had j (is ∙ ap items_in (append-nil (at j).input.received)))

  step_tells : (i : ℕ) (items left : List Item) (floor : ℕ) → items_in (at i).input.received ≡ (at i).consumed ++ (items ++ left)
      → (j : ℕ) → more_at i items j (at j).consumed ≡ items_in (at j).input.received → (if nat_eq j i then is_floor (floor_behind left floor) else (at j).told) ≡ true
  step_tells i items left floor came =
      at_place (λ j b. (at j).consumed ++ (if b then items else []) ≡ items_in (at j).input.received → (if b then is_floor (floor_behind left floor) else (at j).told) ≡ true) i
      (way left came)
      (λ j is. had j (sym (append-nil (at j).consumed) ∙ is))
    where
      way : (left : List Item) → items_in (at i).input.received ≡ (at i).consumed ++ (items ++ left) → (at i).consumed ++ items ≡ items_in (at i).input.received → is_floor (floor_behind left floor) ≡ true
      way [] came is = refl
      way (item ∷ left) came is =
          let ate = (at i).consumed ++ items in
          let none : item ∷ left ≡ [] = append_cancel_left ate (item ∷ left) [] (append_assoc (at i).consumed items (item ∷ left) ∙ sym came ∙ sym is ∙ sym (append-nil ate)) in
          absurd cc

  act_tells : (act : Act) → MayAct parents by slots act state → HaveTold (after_all parents (events_in act) state)
  act_tells (DoRead None) may = had
  act_tells (DoRead (Some run)) may = had
  act_tells (DoRoot i feed) may = had
  act_tells (DoTake i (RunFeed run)) may = take_tells i (RunFeed run) (λ is. absurd (left_some (at i).input.received (RunFeed run) (at i).consumed may.0 (run_some run) is))
  act_tells (DoTake i (PacketFeed packet)) may = take_tells i (PacketFeed packet) (λ is. absurd (left_some (at i).input.received (PacketFeed packet) (at i).consumed may.0 (omega arith) is))
  act_tells (DoTake i (From start)) may = take_tells i (From start) (λ is. had i may.0)
  act_tells (DoTake i End) may = take_tells i End (λ _. had i may.0)
  act_tells (DoStep i items left new floor) may = step_tells i items left floor may.0
  act_tells (DoGive i child feed) may = had
  act_tells (DoTell i mark) may = had
  act_tells (DoGather i mark false) may = had
  act_tells (DoGather i mark true) may = had
  act_tells (DoPrint entry false) may = had
  act_tells (DoPrint entry true) may = had

  module _ (legal : Legal parents by slots state) where
    -- what an act asks is what its events ask
    act_may : (act : Act) → MayAct parents by slots act state → MayAll parents by slots (events_in act) state
    act_may (DoRead run) may = (may, tt)
    act_may (DoRoot i feed) may = (may, tt)
    act_may (DoTake i feed) may = (((still, had i may.0), may.2), way (ends_feed feed) refl)
      where
        still : (at i).closed ≡ false
        still = not_closed (at i).input.received (at i).consumed (at i).closed (legal.fits.takes i) may.1

        way : (b : Bool) → ends_feed feed ≡ b → MayAll parents by slots (if b then Close i ∷ [] else []) (after parents (Take i feed) state)
        way true is =
            let received = (at i).input.received in
            let came = at_self (λ b. (some ends_feed (received ++ (if b then feed ∷ [] else [])) ≡ true) × ((at i).consumed ≡ items_in (received ++ (if b then feed ∷ [] else [])))) i (
              some-append ends_feed received (feed ∷ []) ∙ (λ k. may.1 k || (ends_feed feed || false)) ∙ ap (λ (b : Bool). b || false) is,
              may.0 ∙ sym (items-append received (feed ∷ []) ∙ (λ k. items_in received ++ (end_items feed is k ++ [])) ∙ append-nil (items_in received)),
            ) in
            (((came.0, came.1, had i may.0, still), tt), tt)
        way false is = tt
    act_may (DoStep i items left new floor) may = (((still, (left, may.0 ∙ sym (append_assoc (at i).consumed items left)), may.2, way left may.3), tt), tt)
      where
        still : (at i).closed ≡ false
        still = rest_open (at i).input.received (at i).consumed items left (at i).closed (legal.fits.takes i) may.0 may.1

        way : (left : List Item) → (left ≡ [] → MayTell (above_in (at i).input.received (length ((at i).consumed ++ items))) (by.whole i) (by.near i) ((at i).consumed ++ items) floor) → (start : ℕ) → floor_behind left floor ≡ Some start
            → MayTell (above_in (at i).input.received (length ((at i).consumed ++ items))) (by.whole i) (by.near i) ((at i).consumed ++ items) start
        way [] is start same = let floor_is : floor ≡ start = cc in subst (MayTell (above_in (at i).input.received (length ((at i).consumed ++ items))) (by.whole i) (by.near i) ((at i).consumed ++ items)) floor_is (is refl)
        way (item ∷ left) is start same = absurd cc
    act_may (DoGive i child feed) may = (may, tt)
    act_may (DoTell i mark) may = (may, tt)
    act_may (DoGather i mark true) may = (may, ((or_true state.stopped, tt), tt))
    act_may (DoGather i mark false) may = (may, tt)
    act_may (DoPrint entry true) may = (may, ((or_true state.stopped, tt), tt))
    act_may (DoPrint entry false) may = (may, tt)

module _ (parents : List (Option ℕ)) (by : Definitions) (slots : ℕ) (lawful : IsLawful parents by) where
  go : (acts : List Act) (state : State) → Legal parents by slots state → HaveTold state → MayActAll parents by slots acts state → Legal parents by slots (acted_all parents acts state)
  go [] state legal had may = legal
  go (act ∷ acts) state legal had may =
      go acts (after_all parents (events_in act) state) (keep_on parents by slots lawful (events_in act) state legal (act_may parents by slots state had legal act may.0))
      (act_tells parents by slots state had act may.0) may.1

pub acts_keep : ActsKeepLegal
acts_keep parents by slots lawful acts may = go parents by slots lawful acts opening (opening_legal parents by slots lawful) (λ j is. refl) may
