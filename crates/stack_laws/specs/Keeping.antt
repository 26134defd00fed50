-- What a stage keeps, move by move.
use Rattle.std.specs.Prelude.{ℕ, ◌≡◌, Bool, true, List, [], ◌++◌}
use Rattle.std.specs.List.{All}
use Rattle.la_base.specs.declared.wires.Feed.{Feed}
use Rattle.la_base.specs.declared.wires.Mark.{Mark}
use Rattle.la_base.specs.declared.wires.Out.{Out}
use Rattle.tree_io.specs.Feeds.{together}
use Rattle.decoder_core.specs.Inputs.{Item}
use Rattle.decoder_core.specs.Promises.{KeepsFront}
use Rattle.decoder_core.specs.Marks.{shown, FloorsHold}
use Rattle.tree_io.specs.Feeds.{marks_of}
use Rattle.tree_runs.specs.Floors.{Floored}
use Rattle.stack_laws.specs.Links.{IsFront, EndsLast, some}
use Rattle.stack_laws.specs.Feeds.{ends_feed, ends_marks, feed_end, mark_end, items_in, feeds_of}
use Rattle.stack_laws.specs.Heeding.{Heeds, TellsPlaces, without_places}
use Rattle.stack_laws.specs.Moves.{View, Sending, Move, MayMoveAll, moved_all}

-- what a stage has consumed is a front of what it received; where it has closed, it has received
-- End and consumed all
pub record Takes (received : List Feed) (consumed : List Item) (closed : Bool) : Type 0 where
  pub front : IsFront consumed (items_in received)
  pub all : closed ≡ true → (some ends_feed received ≡ true) × (consumed ≡ items_in received)

-- the marks that a stage has made show the notes and pieces of these outputs, in order; End is
-- among them where it has closed, and is the last
pub record Marks (outs : List Out) (closed : Bool) (made : List Mark) : Type 0 where
  pub shows : shown made ≡ marks_of outs
  pub last : EndsLast ends_marks made
  pub ends : some ends_marks made ≡ closed

-- *floors*: whatever the input goes on with, as far as it heeds what was told of it, the notes
-- after each floor start there or later
abbrev pub Floors : (List Item → List Out) → List Feed → List Item → List Mark → Type 0
Floors whole received consumed made =
    (more : List Item) → Heeds received (consumed ++ more)
    → FloorsHold made (marks_of (whole (consumed ++ more)))

-- a stage has told a floor behind each of these batches of what it has consumed, at least the near
-- one, and all that they give in front of it; behind the last of them is what it has consumed
-- since, nothing where `told`, and End where it has closed
pub record Batched (whole : List Item → List Out) (near : List Item → ℕ) (consumed : List Item)
    (told closed : Bool) (made : List Mark) : Type 0 where
  pub batches : List (List Item)
  pub since : List Item
  pub front : List Mark
  pub new : List Out
  pub cut : consumed ≡ together batches ++ since
  pub floored : Floored whole near [] batches front
  pub adds : whole consumed ≡ whole (together batches) ++ new
  pub marks : made ≡ front ++ (marks_of new ++ mark_end closed)
  pub none_since : told ≡ true → since ≡ []
  pub all_told : closed ≡ true → told ≡ true

-- what a stage has made for a child is what its decoder gives, and End where it has closed, with
-- the places between them that it told; these hold; and a front of all that was sent
pub record Serves (whole : List Item → List Out) (received : List Feed) (consumed : List Item)
    (closed : Bool) (child : Sending Feed) : Type 0 where
  pub made : without_places child.made ≡ feeds_of (whole consumed) ++ feed_end closed
  pub places : TellsPlaces whole received consumed child.made
  pub last : EndsLast ends_feed child.made
  pub sends : IsFront child.sent child.made

-- what a stage has is what its decoder gives on what the stage has consumed: `whole` is the
-- decoder's definition, `near` its near floor
pub record Keeps (whole : List Item → List Out) (near : List Item → ℕ) (view : View) : Type 0 where
  pub takes : Takes view.received view.consumed view.closed
  pub marks : Marks (whole view.consumed) view.closed view.marks.made
  pub tells : IsFront view.marks.sent view.marks.made
  pub floors : Floors whole view.received view.consumed view.marks.made
  pub batched : Batched whole near view.consumed view.told view.closed view.marks.made
  pub children : All (Serves whole view.received view.consumed view.closed) view.children

-- moves keep that
abbrev pub MovesKeep : Type 0
MovesKeep =
    (whole : List Item → List Out) (near : List Item → ℕ) → KeepsFront whole
    → (moves : List Move) (view : View) → Keeps whole near view → MayMoveAll whole near moves view
    → Keeps whole near (moved_all moves view)
