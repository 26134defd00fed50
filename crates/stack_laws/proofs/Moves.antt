-- The moves of a stage are events of its tree.
use Rattle.std.proofs.Common.{◌≡◌, ℕ, zero, suc, ◌+◌, ◌≤◌, Bool, true, false, ◌||◌, cond, List, [], ◌∷◌, ◌++◌, map, length, get_or, slice_get, Option, Some, None, refl, sym, ◌∙◌, ap, subst, arith, if◌then◌else◌}
use Rattle.std.specs.List.{All, filter, range_with_len}
use Rattle.std.proofs.lemmas.Bool.Decides.{nat_tests}
use Rattle.std.proofs.lemmas.List.Elements.{All-nil, All-cons, All-head, All-tail}
use Rattle.la_base.specs.declared.wires.Feed.{Feed}
use Rattle.la_base.specs.declared.wires.Feed.TheVariants.{End}
use Rattle.la_base.specs.declared.wires.Mark.TheVariants.{End as EndMark}
use Rattle.tree_io.specs.Feeds.{marks_of}
use Rattle.tree_runs.specs.Machines.{Definitions}
use Rattle.stack_laws.specs.Links.{IsNext}
use Rattle.stack_laws.specs.Running.{Stage, State, stands_on}
use Rattle.stack_laws.specs.Feeds.{feeds_of, floor_feed, floor_mark, is_floor}
use Rattle.stack_laws.specs.Events.{Asks, IsOwn, after, more_at, to}
use Rattle.stack_laws.specs.Moves.{Sending, Move, TakeIn, CloseUp, StepOn, GiveTo, TellOut, makes, sends_at, moved, NextFor, MayMove, MayMoveAll, moved_all}
use Rattle.stack_laws.specs.Views.{children_of, event_of, sending_to, view_of}
use Rattle.stack_laws.specs.Owning.{MovesAreEvents}
use Rattle.stack_laws.proofs.Places.{at_self, or_all, grows_here, stands_is, stays_at, to_child}

-- a list of numbers from a on, each behind the one before it
abbrev Rising : ℕ → List ℕ → Type 0
Rising a [] = Unit {0}
Rising a (c ∷ cs) = (a ≤ c) × Rising (c + 1) cs

rising_later : (a b : ℕ) (cs : List ℕ) → a ≤ b → Rising b cs → Rising a cs
rising_later a b [] low up = tt
rising_later a b (c ∷ cs) low up = (omega (arith, low, up.0), up.1)

filter_rising : (p : ℕ → Bool) (a n : ℕ) → Rising a (filter p (range_with_len a n))
filter_rising p a zero = tt
filter_rising p a (suc n) = way (p a) (filter_rising p (a + 1) n)
  where
    way : (b : Bool) → Rising (a + 1) (filter p (range_with_len (a + 1) n)) → Rising a (cond b (a ∷ filter p (range_with_len (a + 1) n)) (filter p (range_with_len (a + 1) n)))
    way true rest = (omega arith, rest)
    way false rest = rising_later a (a + 1) _ (omega arith) rest

passes : (p : ℕ → Bool) (xs : List ℕ) → All (λ x. p x ≡ true) (filter p xs)
passes p [] = All-nil (λ x. p x ≡ true)
passes p (x ∷ xs) = way (p x) refl (passes p xs)
  where
    way : (b : Bool) → p x ≡ b → All (λ y. p y ≡ true) (filter p xs) → All (λ y. p y ≡ true) (cond b (x ∷ filter p xs) (filter p xs))
    way true is rest = All-cons (λ y. p y ≡ true) x (filter p xs) is rest
    way false is rest = rest

module _ (parents : List (Option ℕ)) (i : ℕ) (state : State) where
  abbrev IsChild : ℕ → Type 0
  IsChild c = slice_get parents c ≡ Some (Some i)

  abbrev at : ℕ → Stage
  at j = state.stages j

  abbrev has : ℕ → Sending Feed
  has j = sending_to (at j)

  all_children : All IsChild (children_of parents i)
  all_children k d low = stands_is (slice_get parents (get_or (children_of parents i) k d)) i (passes (λ j. stands_on (slice_get parents j) (Some i)) (range_with_len 0 (length parents)) k d low)

  -- more is made for each child
  made_all : (xs : List Feed) (cs : List ℕ) → All IsChild cs → map (λ j. record { made = (at j).input.made ++ to parents (Some i) xs j; sent = (at j).input.sent }) cs ≡ map (makes xs) (map has cs)
  made_all xs [] all = refl
  made_all xs (c ∷ cs) all =
      let here = to_child parents i c xs (All-head IsChild c cs all) in
      λ k. (record { made = (at c).input.made ++ here k; sent = (at c).input.sent }) ∷ made_all xs cs (All-tail IsChild c cs all) k

  -- what each has once this child is sent a feed
  abbrev has_now : ℕ → Feed → ℕ → Sending Feed
  has_now child feed j = record { made = (at j).input.made; sent = more_at child (feed ∷ []) j (at j).input.sent }

  -- nothing is sent to those behind it
  sent_none : (child : ℕ) (feed : Feed) (cs : List ℕ) → Rising (child + 1) cs → map (has_now child feed) cs ≡ map has cs
  sent_none child feed [] up = refl
  sent_none child feed (c ∷ cs) up =
      let low = up.0 in
      let same = stays_at child c (feed ∷ []) (at c).input.sent (λ is. omega (arith, low, is)) in
      let rest = sent_none child feed cs (rising_later (child + 1) (c + 1) cs (omega (arith, low)) up.1) in
      λ k. (record { made = (at c).input.made; sent = same k }) ∷ rest k

  -- the child at a place is sent a feed, and no other is
  sent_one : (n : ℕ) (feed : Feed) (a : ℕ) (cs : List ℕ) → Rising a cs → NextFor n feed (map has cs) → map (has_now (get_or cs n 0) feed) cs ≡ sends_at n feed (map has cs)
  sent_one n feed a [] up next = absurd next
  sent_one zero feed a (c ∷ cs) up next =
      let rest = sent_none c feed cs up.1 in
      λ k. (record { made = (at c).input.made; sent = grows_here c (feed ∷ []) (at c).input.sent k }) ∷ rest k
  sent_one (suc n) feed a (c ∷ cs) up next =
      let behind = far n feed (c + 1) cs up.1 next in
      let same = stays_at (get_or cs n 0) c (feed ∷ []) (at c).input.sent (λ is. omega (arith, behind, is)) in
      let rest = sent_one n feed (c + 1) cs up.1 next in
      λ k. (record { made = (at c).input.made; sent = same k }) ∷ rest k
    where
      far : (n : ℕ) (feed : Feed) (b : ℕ) (cs : List ℕ) → Rising b cs → NextFor n feed (map has cs) → b ≤ get_or cs n 0
      far n feed b [] up next = absurd next
      far zero feed b (c ∷ cs) up next = up.0
      far (suc n) feed b (c ∷ cs) up next = let low = far n feed (c + 1) cs up.1 next in let first = up.0 in omega (arith, low, first)

  -- what may be sent to the child at a place may be sent to that child
  next_child : (n : ℕ) (feed : Feed) (cs : List ℕ) → All IsChild cs → NextFor n feed (map has cs) → IsChild (get_or cs n 0) × IsNext (at (get_or cs n 0)).input.sent feed (at (get_or cs n 0)).input.made
  next_child n feed [] all next = absurd next
  next_child zero feed (c ∷ cs) all next = (All-head IsChild c cs all, next)
  next_child (suc n) feed (c ∷ cs) all next = next_child n feed cs (All-tail IsChild c cs all) next

-- one move
module _ (parents : List (Option ℕ)) (by : Definitions) (i : ℕ) (state : State) where
  abbrev now : Stage
  now = state.stages i

  abbrev children : List ℕ
  children = children_of parents i

  abbrev IsEvent : Move → Type 0
  IsEvent move =
      IsOwn i (event_of parents i move) × Asks parents by (event_of parents i move) state × (view_of parents i (after parents (event_of parents i move) state) ≡ moved move (view_of parents i state))

  move_event : (move : Move) → MayMove (by.whole i) (by.near i) move (view_of parents i state) → IsEvent move
  move_event (TakeIn feed) may = (refl, may, λ k. record (view_of parents i state) { received = grows_here i (feed ∷ []) now.input.received k })
  move_event CloseUp may = (
    refl,
    may,
    λ k. record (view_of parents i state) {
      children = made_all parents i state (End ∷ []) children (all_children parents i state) k;
      marks = record { made = grows_here i (EndMark ∷ []) now.marks.made k; sent = now.marks.sent };
      closed = at_self (λ b. (now.closed || b) ≡ true) i (or_all now.closed) k;
    },
  )
  move_event (StepOn items new floor) may = (
    refl,
    may,
    λ k. record (view_of parents i state) {
      consumed = grows_here i items now.consumed k;
      told = at_self (λ b. (if b then is_floor floor else now.told) ≡ is_floor floor) i refl k;
      children = made_all parents i state (feeds_of new ++ floor_feed floor) children (all_children parents i state) k;
      marks = record { made = grows_here i (marks_of new ++ floor_mark floor) now.marks.made k; sent = now.marks.sent };
    },
  )
  move_event (GiveTo n feed) may = (
    refl,
    next_child parents i state n feed children (all_children parents i state) may,
    λ k. record (view_of parents i state) {
      children = sent_one parents i state n feed 0 children (filter_rising (λ j. stands_on (slice_get parents j) (Some i)) 0 (length parents)) may k;
    },
  )
  move_event (TellOut mark) may = (
    refl,
    may,
    λ k. record (view_of parents i state) { marks = record { made = now.marks.made; sent = grows_here i (mark ∷ []) now.marks.sent k } },
  )

pub moves_events : MovesAreEvents
moves_events parents by i [] state may = (All-nil (IsOwn i), tt, refl)
moves_events parents by i (move ∷ moves) state may =
    let event = event_of parents i move in
    let one = move_event parents by i state move may.0 in
    let rest = moves_events parents by i moves (after parents event state) (subst (MayMoveAll (by.whole i) (by.near i) moves) (sym one.2) may.1) in
    (All-cons (IsOwn i) event (map (event_of parents i) moves) one.0 rest.0, (one.1, rest.1), rest.2 ∙ ap (moved_all moves) one.2)
