-- What may happen next in a tree that runs.
use Rattle.std.specs.Prelude.{ℕ, ◌≡◌, ◌<◌, nat_eq, Bool, true, false, ◌||◌, not, if◌then◌else◌}
use Rattle.std.specs.Prelude.{List, [], ◌∷◌, ◌++◌, length, slice_get, Option, Some, None}
use Rattle.la_base.specs.declared.samples.Run.{Run}
use Rattle.la_base.specs.declared.wires.Feed.{Feed}
use Rattle.la_base.specs.declared.wires.Feed.TheVariants.{Run as RunFeed, End}
use Rattle.la_base.specs.declared.wires.Mark.{Mark}
use Rattle.la_base.specs.declared.wires.Mark.TheVariants.{End as EndMark}
use Rattle.la_base.specs.declared.wires.Out.{Out}
use Rattle.note_order.specs.declared.entry.Entry.{Entry}
use Rattle.annot_merge.specs.Bounds.{IsAllowed}
use Rattle.annot_merge.specs.Marks.{sorted_notes}
use Rattle.decoder_core.specs.Inputs.{Item}
use Rattle.tree_io.specs.Feeds.{marks_of}
use Rattle.tree_runs.specs.Machines.{Definitions}
use Rattle.tree_runs.specs.Passing.{only}
use Rattle.stack_laws.specs.Links.{IsFront, IsNext, IsFree, some}
use Rattle.stack_laws.specs.Moves.{MayTell}
use Rattle.stack_laws.specs.Running.{Stage, State, is_over, stands_on}
use Rattle.stack_laws.specs.Feeds.{ends_feed, feed_end, items_in, feeds_of, floor_feed, floor_mark}
use Rattle.stack_laws.specs.Feeds.{is_floor}
use Rattle.stack_laws.specs.Heeding.{above_in}

pub data Event : Type 0 where
  -- the reader reads a run, or that there is none
  Read : Option Run → Event
  -- the reader hears that the run was stopped, and reads no more
  Hear : Event
  -- the reader sends a root what is next for it
  Root : ℕ → Feed → Event
  -- a stage takes what is next on its input link
  Take : ℕ → Feed → Event
  -- a stage that has received End, and has consumed all that came before it, makes End for each of
  -- its links
  Close : ℕ → Event
  -- a stage's machine consumes more of what was taken, and gives these outputs; a floor may stand
  -- after them, and is told its children too
  Step : ℕ → List Item → List Out → Option ℕ → Event
  -- a stage sends a child what is next for it
  Give : ℕ → ℕ → Feed → Event
  -- a stage sends the driver its next mark
  Tell : ℕ → Mark → Event
  -- the driver gathers the next mark of a stage; that may stop the run
  Gather : ℕ → Mark → Bool → Event
  -- the driver prints the first note that it holds; that may stop the run
  Print : Entry → Bool → Event

-- one more of a list at one place, and nothing elsewhere
abbrev pub more_at : {X : Type 0} → ℕ → List X → ℕ → List X → List X
more_at i new j old = old ++ only i new j

-- one list of stage i grows, and no other does: what was sent to it, what it received, what it has
-- consumed, the marks that it has made and has sent, and those that were gathered of it; or it has
-- closed
abbrev pub sent_feed : ℕ → Feed → (ℕ → Stage) → ℕ → Stage
sent_feed i feed stages j = record (stages j) {
  input = record (stages j).input { sent = more_at i (feed ∷ []) j (stages j).input.sent };
}

abbrev pub took_feed : ℕ → Feed → (ℕ → Stage) → ℕ → Stage
took_feed i feed stages j = record (stages j) {
  input = record (stages j).input { received = more_at i (feed ∷ []) j (stages j).input.received };
}

abbrev pub ate : ℕ → List Item → Bool → (ℕ → Stage) → ℕ → Stage
ate i items told stages j = record (stages j) {
  consumed = more_at i items j (stages j).consumed;
  told = if nat_eq j i then told else (stages j).told;
}

abbrev pub made_marks : ℕ → List Mark → (ℕ → Stage) → ℕ → Stage
made_marks i marks stages j = record (stages j) {
  marks = record (stages j).marks { made = more_at i marks j (stages j).marks.made };
}

abbrev pub closes : ℕ → (ℕ → Stage) → ℕ → Stage
closes i stages j = record (stages j) { closed = (stages j).closed || nat_eq j i }

abbrev pub sent_mark : ℕ → Mark → (ℕ → Stage) → ℕ → Stage
sent_mark i mark stages j = record (stages j) {
  marks = record (stages j).marks { sent = more_at i (mark ∷ []) j (stages j).marks.sent };
}

abbrev pub took_mark : ℕ → Mark → (ℕ → Stage) → ℕ → Stage
took_mark i mark stages j = record (stages j) {
  marks = record (stages j).marks { received = more_at i (mark ∷ []) j (stages j).marks.received };
}

-- what an event asks of the other end of a link: a free slot, or that this was sent
abbrev pub Lets : ℕ → Event → State → Type 0
Lets slots (Read run) state = Unit {0}
Lets slots Hear state = Unit {0}
Lets slots (Root i feed) state = IsFree slots (state.stages i).input
Lets slots (Take i feed) state =
    IsNext (state.stages i).input.received feed (state.stages i).input.sent
Lets slots (Close i) state = Unit {0}
Lets slots (Step i items new floor) state = Unit {0}
Lets slots (Give i child feed) state = IsFree slots (state.stages child).input
Lets slots (Tell i mark) state = IsFree slots (state.stages i).marks
Lets slots (Gather i mark stops) state =
    IsNext (state.stages i).marks.received mark (state.stages i).marks.sent
Lets slots (Print entry stops) state = Unit {0}

-- the marks that were gathered of each stage
abbrev pub gathered_of : State → ℕ → List Mark
gathered_of state j = (state.stages j).marks.received

module _ (parents : List (Option ℕ)) where
  -- what is for those that stand on `above`, at the place j
  abbrev pub to : {T : Type 0} → Option ℕ → List T → ℕ → List T
  to above xs j = if stands_on (slice_get parents j) above then xs else []

  -- these feeds are made for each instance that stands on `above`
  abbrev pub hand : Option ℕ → List Feed → (ℕ → Stage) → ℕ → Stage
  hand above feeds stages j = record (stages j) {
    input = record (stages j).input { made = (stages j).input.made ++ to above feeds j };
  }

  -- a stop is known to the driver alone, until the reader hears of it
  abbrev pub stop_if : Bool → State → State
  stop_if stops state = record state { stopped = state.stopped || stops }

  -- what an event does
  abbrev pub after : Event → State → State
  after (Read (Some run)) state = record state {
    fed = state.fed ++ run ∷ [];
    stages = hand None (RunFeed run ∷ []) state.stages;
  }
  after (Read None) state = record state {
    stages = hand None (End ∷ []) state.stages;
    ended = true;
  }
  after Hear state = record state {
    stages = hand None (feed_end (not (is_over state))) state.stages;
    heard = true;
  }
  after (Root i feed) state = record state { stages = sent_feed i feed state.stages }
  after (Take i feed) state = record state { stages = took_feed i feed state.stages }
  after (Close i) state = record state {
    stages = hand (Some i) (End ∷ []) (made_marks i (EndMark ∷ []) (closes i state.stages));
  }
  after (Step i items new floor) state = record state {
    stages = hand (Some i) (feeds_of new ++ floor_feed floor)
        (made_marks i (marks_of new ++ floor_mark floor)
        (ate i items (is_floor floor) state.stages));
  }
  after (Give i child feed) state = record state { stages = sent_feed child feed state.stages }
  after (Tell i mark) state = record state { stages = sent_mark i mark state.stages }
  after (Gather i mark stops) state =
      stop_if stops (record state { stages = took_mark i mark state.stages })
  after (Print entry stops) state =
      stop_if stops (record state { printed = state.printed ++ entry ∷ [] })

  -- all notes that were gathered, in the order of a listing; those that weren't printed are held
  abbrev pub gathered : State → List Entry
  gathered state = sorted_notes (length parents) (gathered_of state)

  module _ (by : Definitions) where
    -- what an event asks of those that act: the reader, the driver, or one stage
    abbrev pub Asks : Event → State → Type 0
    Asks (Read run) state = is_over state ≡ false
    Asks Hear state = state.stopped ≡ true
    Asks (Root i feed) state =
        (slice_get parents i ≡ Some None)
        × IsNext (state.stages i).input.sent feed (state.stages i).input.made
    Asks (Take i feed) state =
        ((state.stages i).closed ≡ false) × ((state.stages i).told ≡ true)
    Asks (Close i) state =
        (some ends_feed (state.stages i).input.received ≡ true)
        × ((state.stages i).consumed ≡ items_in (state.stages i).input.received)
        × ((state.stages i).told ≡ true) × ((state.stages i).closed ≡ false)
    Asks (Step i items new floor) state =
        ((state.stages i).closed ≡ false)
        × IsFront ((state.stages i).consumed ++ items) (items_in (state.stages i).input.received)
        × (by.whole i ((state.stages i).consumed ++ items)
        ≡ by.whole i (state.stages i).consumed ++ new)
        × ((start : ℕ) → floor ≡ Some start
        → MayTell
        (above_in (state.stages i).input.received (length ((state.stages i).consumed ++ items)))
        (by.whole i) (by.near i) ((state.stages i).consumed ++ items) start)
    Asks (Give i child feed) state =
        (slice_get parents child ≡ Some (Some i))
        × IsNext (state.stages child).input.sent feed (state.stages child).input.made
    Asks (Tell i mark) state = IsNext (state.stages i).marks.sent mark (state.stages i).marks.made
    Asks (Gather i mark stops) state = i < length parents
    Asks (Print entry stops) state =
        IsNext state.printed entry (gathered state) × (state.stopped ≡ false)
        × IsAllowed (length parents) (gathered_of state) entry

    -- when an event may happen
    abbrev pub May : ℕ → Event → State → Type 0
    May slots event state = Asks event state × Lets slots event state

    -- one after another
    abbrev pub MayAll : ℕ → List Event → State → Type 0
    MayAll slots [] state = Unit {0}
    MayAll slots (event ∷ events) state =
        May slots event state × MayAll slots events (after event state)

    -- what each of them asks of those that act
    abbrev pub AsksAll : List Event → State → Type 0
    AsksAll [] state = Unit {0}
    AsksAll (event ∷ events) state = Asks event state × AsksAll events (after event state)

  -- what events do, one after another
  abbrev pub after_all : List Event → State → State
  after_all [] state = state
  after_all (event ∷ events) state = after_all events (after event state)

-- an event is one of stage i
abbrev pub IsOwn : ℕ → Event → Type 0
IsOwn i (Read run) = ⊥
IsOwn i Hear = ⊥
IsOwn i (Root j feed) = ⊥
IsOwn i (Take j feed) = j ≡ i
IsOwn i (Close j) = j ≡ i
IsOwn i (Step j items new floor) = j ≡ i
IsOwn i (Give j child feed) = j ≡ i
IsOwn i (Tell j mark) = j ≡ i
IsOwn i (Gather j mark stops) = ⊥
IsOwn i (Print entry stops) = ⊥
