-- What one stage has, and what it may do by itself.
use Rattle.std.specs.Prelude.{ℕ, zero, suc, ◌≡◌, ◌≤◌, false, Bool, true, List, [], ◌∷◌, ◌++◌, map}
use Rattle.std.specs.Prelude.{length, Option, Some}
use Rattle.la_base.specs.declared.wires.Feed.{Feed}
use Rattle.la_base.specs.declared.wires.Feed.TheVariants.{End}
use Rattle.la_base.specs.declared.wires.Mark.{Mark}
use Rattle.la_base.specs.declared.wires.Mark.TheVariants.{End as EndMark}
use Rattle.la_base.specs.declared.wires.Out.{Out}
use Rattle.decoder_core.specs.Inputs.{Item}
use Rattle.decoder_core.specs.Packets.{IsFloorOver}
use Rattle.tree_io.specs.Feeds.{marks_of}
use Rattle.stack_laws.specs.Links.{IsFront, IsNext, some}
use Rattle.stack_laws.specs.Feeds.{ends_feed, items_in, feeds_of, floor_feed, floor_mark, is_floor}
use Rattle.stack_laws.specs.Heeding.{above_in}

-- what a stage has for a link that it sends on: what it made, and what of that it sent
pub record Sending (T : Type 0) : Type 0 where
  pub made : List T
  pub sent : List T

-- what a stage has: what it received, what of that it has consumed, and whether a floor was told
-- behind that; what it has for each child and for its marks; and whether it has closed
pub record View : Type 0 where
  pub received : List Feed
  pub consumed : List Item
  pub told : Bool
  pub children : List (Sending Feed)
  pub marks : Sending Mark
  pub closed : Bool

-- what a stage does in one step: it takes a feed; it closes; its machine consumes items, which give
-- outputs, and behind which it may tell a floor; it gives the child at a place among its children a
-- feed; it tells a mark
pub data Move : Type 0 where
  TakeIn : Feed → Move
  CloseUp : Move
  StepOn : List Item → List Out → Option ℕ → Move
  GiveTo : ℕ → Feed → Move
  TellOut : Mark → Move

abbrev pub makes : {T : Type 0} → List T → Sending T → Sending T
makes new sending = record sending { made = sending.made ++ new }

abbrev pub sends : {T : Type 0} → T → Sending T → Sending T
sends x sending = record sending { sent = sending.sent ++ x ∷ [] }

-- the one at a place sends
abbrev pub sends_at : {T : Type 0} → ℕ → T → List (Sending T) → List (Sending T)
sends_at k x [] = []
sends_at zero x (sending ∷ others) = sends x sending ∷ others
sends_at (suc k) x (sending ∷ others) = sending ∷ sends_at k x others

-- what a move does
abbrev pub moved : Move → View → View
moved (TakeIn feed) view = record view { received = view.received ++ feed ∷ [] }
moved CloseUp view = record view {
  children = map (makes (End ∷ [])) view.children;
  marks = makes (EndMark ∷ []) view.marks;
  closed = true;
}
moved (StepOn items new floor) view = record view {
  consumed = view.consumed ++ items;
  told = is_floor floor;
  children = map (makes (feeds_of new ++ floor_feed floor)) view.children;
  marks = makes (marks_of new ++ floor_mark floor) view.marks;
}
moved (GiveTo k feed) view = record view { children = sends_at k feed view.children }
moved (TellOut mark) view = record view { marks = sends mark view.marks }

-- the child at a place may be sent this
abbrev pub NextFor : ℕ → Feed → List (Sending Feed) → Type 0
NextFor k feed [] = ⊥
NextFor zero feed (sending ∷ others) = IsNext sending.sent feed sending.made
NextFor (suc k) feed (sending ∷ others) = NextFor k feed others

-- a floor that may be told after an input, where all packets that come start at `above` or later:
-- no note and no packet that is still to come starts before it, and what has begun and isn't given
-- yet doesn't start after it
abbrev pub MayTell : ℕ → (List Item → List Out) → (List Item → ℕ) → List Item → ℕ → Type 0
MayTell above whole near input start =
    IsFloorOver above whole input start × (near input ≤ start)

module _ (whole : List Item → List Out) (near : List Item → ℕ) where
  -- when a stage may do it, where `whole` is the definition of its decoder and `near` its near
  -- floor: it takes in until it has closed, and no more before it has told a floor after what it
  -- has consumed; it closes once it has received End, has consumed all that came, and has told a
  -- floor after that; it consumes on in what it has received, and makes what that gives, with a
  -- floor over what it was told of the packets that come; it sends on each link what it made for
  -- it, in order
  abbrev pub MayMove : Move → View → Type 0
  MayMove (TakeIn feed) view = (view.closed ≡ false) × (view.told ≡ true)
  MayMove CloseUp view =
      (some ends_feed view.received ≡ true) × (view.consumed ≡ items_in view.received)
      × (view.told ≡ true) × (view.closed ≡ false)
  MayMove (StepOn items new floor) view =
      (view.closed ≡ false) × IsFront (view.consumed ++ items) (items_in view.received)
      × (whole (view.consumed ++ items) ≡ whole view.consumed ++ new)
      × ((start : ℕ) → floor ≡ Some start
      → MayTell (above_in view.received (length (view.consumed ++ items))) whole near
      (view.consumed ++ items) start)
  MayMove (GiveTo k feed) view = NextFor k feed view.children
  MayMove (TellOut mark) view = IsNext view.marks.sent mark view.marks.made

  -- several moves, one after another
  abbrev pub MayMoveAll : List Move → View → Type 0
  MayMoveAll [] view = Unit {0}
  MayMoveAll (move ∷ moves) view = MayMove move view × MayMoveAll moves (moved move view)

abbrev pub moved_all : List Move → View → View
moved_all [] view = view
moved_all (move ∷ moves) view = moved_all moves (moved move view)
