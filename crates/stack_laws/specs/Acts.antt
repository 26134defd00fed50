-- The acts of a tree whose stages take one feed at a time, of eight kinds: a stage that takes End
-- closes at once, a floor stands behind each feed that is done, and a stop is heard at once.
use Rattle.std.specs.Prelude.{ℕ, ◌≡◌, ◌<◌, Bool, true, false, if◌then◌else◌, List, [], ◌∷◌, ◌++◌}
use Rattle.std.specs.Prelude.{length, Option, Some, None}
use Rattle.la_base.specs.declared.samples.Run.{Run}
use Rattle.la_base.specs.declared.wires.Feed.{Feed}
use Rattle.la_base.specs.declared.wires.Mark.{Mark}
use Rattle.la_base.specs.declared.wires.Out.{Out}
use Rattle.note_order.specs.declared.entry.Entry.{Entry}
use Rattle.decoder_core.specs.Inputs.{Item}
use Rattle.tree_runs.specs.Machines.{Definitions}
use Rattle.stack_laws.specs.Links.{IsNext, some}
use Rattle.stack_laws.specs.Feeds.{ends_feed, items_in}
use Rattle.stack_laws.specs.Heeding.{above_in}
use Rattle.stack_laws.specs.Moves.{MayTell}
use Rattle.stack_laws.specs.Running.{State}
use Rattle.stack_laws.specs.Events.{Event, Read, Hear, Root, Take, Close, Step, Give, Tell, Gather}
use Rattle.stack_laws.specs.Events.{Print}
use Rattle.stack_laws.specs.Events.{May, after_all}

pub data Act : Type 0 where
  DoRead : Option Run → Act
  DoRoot : ℕ → Feed → Act
  -- a stage takes a feed; where that is End, it closes
  DoTake : ℕ → Feed → Act
  -- these items are consumed of the rest, and those are left of it; these outputs are given; this
  -- is a floor, where none are left
  DoStep : ℕ → List Item → List Item → List Out → ℕ → Act
  DoGive : ℕ → ℕ → Feed → Act
  DoTell : ℕ → Mark → Act
  DoGather : ℕ → Mark → Bool → Act
  DoPrint : Entry → Bool → Act

-- a floor, where no items are left
abbrev pub floor_behind : List Item → ℕ → Option ℕ
floor_behind [] floor = Some floor
floor_behind (item ∷ left) floor = None

-- a stop is heard
abbrev pub heard_if : Bool → List Event
heard_if true = Hear ∷ []
heard_if false = []

abbrev pub events_in : Act → List Event
events_in (DoRead run) = Read run ∷ []
events_in (DoRoot i feed) = Root i feed ∷ []
events_in (DoTake i feed) = Take i feed ∷ (if ends_feed feed then Close i ∷ [] else [])
events_in (DoStep i items left new floor) = Step i items new (floor_behind left floor) ∷ []
events_in (DoGive i child feed) = Give i child feed ∷ []
events_in (DoTell i mark) = Tell i mark ∷ []
events_in (DoGather i mark stops) = Gather i mark stops ∷ heard_if stops
events_in (DoPrint entry stops) = Print entry stops ∷ heard_if stops

module _ (parents : List (Option ℕ)) (by : Definitions) (slots : ℕ) where
  -- when an act may happen: a stage takes only where its rest is empty and it hasn't received End,
  -- and steps only where its rest isn't empty
  abbrev pub MayAct : Act → State → Type 0
  MayAct (DoRead run) state = May parents by slots (Read run) state
  MayAct (DoRoot i feed) state = May parents by slots (Root i feed) state
  MayAct (DoTake i feed) state =
      ((state.stages i).consumed ≡ items_in (state.stages i).input.received)
      × (some ends_feed (state.stages i).input.received ≡ false)
      × IsNext (state.stages i).input.received feed (state.stages i).input.sent
  MayAct (DoStep i items left new floor) state =
      (items_in (state.stages i).input.received ≡ (state.stages i).consumed ++ (items ++ left))
      × (0 < length items)
      × (by.whole i ((state.stages i).consumed ++ items)
      ≡ by.whole i (state.stages i).consumed ++ new)
      × (left ≡ []
      → MayTell
      (above_in (state.stages i).input.received (length ((state.stages i).consumed ++ items)))
      (by.whole i) (by.near i) ((state.stages i).consumed ++ items) floor)
  MayAct (DoGive i child feed) state = May parents by slots (Give i child feed) state
  MayAct (DoTell i mark) state = May parents by slots (Tell i mark) state
  MayAct (DoGather i mark stops) state = May parents by slots (Gather i mark stops) state
  MayAct (DoPrint entry stops) state = May parents by slots (Print entry stops) state

  -- one after another
  abbrev pub MayActAll : List Act → State → Type 0
  MayActAll [] state = Unit {0}
  MayActAll (act ∷ acts) state =
      MayAct act state × MayActAll acts (after_all parents (events_in act) state)

-- what acts do, one after another
abbrev pub acted_all : List (Option ℕ) → List Act → State → State
acted_all parents [] state = state
acted_all parents (act ∷ acts) state =
    acted_all parents acts (after_all parents (events_in act) state)
