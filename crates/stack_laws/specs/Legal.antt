-- What holds at every moment of a tree that runs.
use Rattle.std.specs.Prelude.{ℕ, ◌≡◌, ◌<◌, true, false, List, [], ◌++◌, map, length, slice_get}
use Rattle.std.specs.Prelude.{Option, Some, None}
use Rattle.std.specs.List.{All}
use Rattle.la_base.specs.declared.wires.Feed.{Feed}
use Rattle.la_base.specs.declared.wires.Feed.TheVariants.{Run as RunFeed}
use Rattle.la_base.specs.declared.wires.Note.{Note}
use Rattle.la_base.specs.declared.wires.Out.{Out}
use Rattle.note_order.specs.Order.{is_before, entry_of}
use Rattle.note_order.specs.declared.entry.Entry.{Entry}
use Rattle.annot_merge.specs.Marks.{notes_in}
use Rattle.decoder_core.specs.Inputs.{Item}
use Rattle.tree_runs.specs.Listings.{notes_of}
use Rattle.tree_runs.specs.Machines.{Definitions}
use Rattle.stack_laws.specs.Links.{EndsLast, IsLink, IsFront}
use Rattle.stack_laws.specs.Keeping.{Takes, Marks, Floors, Batched}
use Rattle.stack_laws.specs.Running.{Stage, State, is_over}
use Rattle.stack_laws.specs.Feeds.{ends_feed, ends_marks, feed_end, feeds_of}
use Rattle.stack_laws.specs.Heeding.{Heeds, TellsPlaces, without_places}
use Rattle.stack_laws.specs.Events.{gathered}

-- no note of these, which are of one instance, stands before a printed one
abbrev pub NoNoteBefore : List Entry → ℕ → List Note → Type 0
NoNoteBefore printed i notes =
    All (λ entry. All (λ note. is_before (entry_of i note) entry ≡ false) notes) printed

-- what the input of a stage may go on with after what it has consumed: anything that heeds what it
-- was told; but nothing where it has closed, unless the run was stopped before its feed had ended
abbrev pub MayFollow : State → ℕ → List Item → Type 0
MayFollow state i more =
    Heeds (state.stages i).input.received ((state.stages i).consumed ++ more)
    × ((state.stages i).closed ≡ true → state.ended ≡ true → more ≡ [])

-- all that is made for an instance, but for the places that its parent tells: the runs that were
-- fed, and End once the feed is over; or the packets of its parent, and End once that has closed
abbrev pub due : (ℕ → List Item → List Out) → State → Option (Option ℕ) → List Feed
due whole state None = []
due whole state (Some None) = map RunFeed state.fed ++ feed_end (is_over state)
due whole state (Some (Some parent)) =
    feeds_of (whole parent (state.stages parent).consumed)
    ++ feed_end (state.stages parent).closed

module _ (by : Definitions) (i : ℕ) (stage : Stage) where
  -- what a stage has consumed is a front of what it received
  abbrev pub TakesOn : Type 0
  TakesOn = Takes stage.input.received stage.consumed stage.closed

  -- the marks that it has made show what its decoder gives on that
  abbrev pub MarksOn : Type 0
  MarksOn = Marks (by.whole i stage.consumed) stage.closed stage.marks.made

  -- they have true floors, whatever comes that heeds what it was told
  abbrev pub FloorsOn : Type 0
  FloorsOn = Floors (by.whole i) stage.input.received stage.consumed stage.marks.made

  -- and one behind each batch
  abbrev pub BatchedOn : Type 0
  BatchedOn =
      Batched (by.whole i) (by.near i) stage.consumed stage.told stage.closed stage.marks.made

module _ (parents : List (Option ℕ)) (by : Definitions) where
  -- what a stage knows by itself: what it has consumed of what it received; what it has made for
  -- its marks and for each child, of which it has sent a front; and its floors
  pub record Own (i : ℕ) (state : State) : Type 0 where
    pub takes : TakesOn by i (state.stages i)
    pub marks : MarksOn by i (state.stages i)
    pub tells : IsFront (state.stages i).marks.sent (state.stages i).marks.made
    pub floors : FloorsOn by i (state.stages i)
    pub batched : BatchedOn by i (state.stages i)
    pub made : (child : ℕ) → slice_get parents child ≡ Some (Some i)
        → without_places (state.stages child).input.made ≡ due by.whole state (Some (Some i))
    pub places : (child : ℕ) → slice_get parents child ≡ Some (Some i)
        → TellsPlaces (by.whole i) (state.stages i).input.received (state.stages i).consumed
        (state.stages child).input.made
    pub last : (child : ℕ) → slice_get parents child ≡ Some (Some i)
        → EndsLast ends_feed (state.stages child).input.made
    pub gives : (child : ℕ) → slice_get parents child ≡ Some (Some i)
        → IsFront (state.stages child).input.sent (state.stages child).input.made

module _ (parents : List (Option ℕ)) (by : Definitions) (slots : ℕ) where
  -- the lists of a tree that runs fit together
  pub record Fits (state : State) : Type 0 where
    -- each link is one
    pub inputs : (i : ℕ) → IsLink ends_feed slots (state.stages i).input
    pub outputs : (i : ℕ) → IsLink ends_marks slots (state.stages i).marks
    -- each stage has consumed a front of what it received; where it has closed, it has received End
    -- and consumed all
    pub takes : (i : ℕ) → TakesOn by i (state.stages i)
    -- what was made for each is what was fed, or what its parent gives on what that has consumed,
    -- in order; End is made for it only where the feed is over, or its parent has closed
    pub hands : (i : ℕ)
        → without_places (state.stages i).input.made ≡ due by.whole state (slice_get parents i)
    -- the places that a stage has told those on it hold
    pub places : (i parent : ℕ) → slice_get parents i ≡ Some (Some parent)
        → TellsPlaces (by.whole parent) (state.stages parent).input.received
        (state.stages parent).consumed (state.stages i).input.made
    -- the marks that each has made are what it gives on what it has consumed, in order, with End
    -- last, where it has closed
    pub marks : (i : ℕ) → MarksOn by i (state.stages i)
    -- whatever comes that heeds what was told, the notes after each floor start there or later
    pub floors : (i : ℕ) → FloorsOn by i (state.stages i)
    -- a floor stands behind each batch of what it has consumed, at least the near one
    pub batched : (i : ℕ) → BatchedOn by i (state.stages i)

  -- *legal state*
  pub record Legal (state : State) : Type 0 where
    pub fits : Fits state
    -- what was printed are the first of the notes that were gathered, in the order of a listing
    pub prints : IsFront state.printed (gathered parents state)
    -- the reader hears of a stop once there is one
    pub hears : state.heard ≡ true → state.stopped ≡ true
    -- no note that wasn't gathered, or is still to come, stands before a printed one
    pub later : (i : ℕ) → i < length parents → (more : List Item) (new : List Note)
        → MayFollow state i more
        → notes_of (by.whole i ((state.stages i).consumed ++ more))
        ≡ notes_in (state.stages i).marks.received ++ new
        → NoNoteBefore state.printed i new
