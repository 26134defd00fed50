-- What one stage does by itself, in any tree.
use Rattle.std.specs.Prelude.{ℕ, ◌≡◌, ◌≢◌, false, List, map, slice_get, Option, Some}
use Rattle.std.specs.List.{All}
use Rattle.tree_runs.specs.Machines.{Definitions}
use Rattle.stack_laws.specs.Running.{Stage, State, stands_on}
use Rattle.stack_laws.specs.Events.{Event, Asks, AsksAll, IsOwn, after, after_all}
use Rattle.stack_laws.specs.Legal.{Own}
use Rattle.stack_laws.specs.Moves.{Move, MayMoveAll, moved_all}
use Rattle.stack_laws.specs.Views.{event_of, view_of}
use Rattle.stack_laws.specs.Laws.{IsLawful}

-- an event of a stage keeps what the stage knows by itself, whatever the other ends of its links
-- did
abbrev pub StageKeepsItsOwn : Type 0
StageKeepsItsOwn =
    (parents : List (Option ℕ)) (by : Definitions) → IsLawful parents by
    → (i : ℕ) (event : Event) → IsOwn i event → (state : State) → Own parents by i state
    → Asks parents by event state → Own parents by i (after parents event state)

-- what a stage does by itself, move by move, are events of the tree, all of that stage: what they
-- ask of it holds, and they do to what it has what its moves say
abbrev pub MovesAreEvents : Type 0
MovesAreEvents =
    (parents : List (Option ℕ)) (by : Definitions) (i : ℕ) (moves : List Move) (state : State)
    → MayMoveAll (by.whole i) (by.near i) moves (view_of parents i state)
    → All (IsOwn i) (map (event_of parents i) moves)
    × AsksAll parents by (map (event_of parents i) moves) state
    × (view_of parents i (after_all parents (map (event_of parents i) moves) state)
    ≡ moved_all moves (view_of parents i state))

-- a stage as it was, but for the link of its input
pub record StaysAside (before after : Stage) : Type 0 where
  pub received : after.input.received ≡ before.input.received
  pub consumed : after.consumed ≡ before.consumed
  pub told : after.told ≡ before.told
  pub marks : after.marks ≡ before.marks
  pub closed : after.closed ≡ before.closed

-- an event of stage i leaves alone what the driver has, what other stages have, and each link but
-- for the ends that stage i owns
pub record Leaves (parents : List (Option ℕ)) (i : ℕ) (before after : State) : Type 0 where
  pub fed : after.fed ≡ before.fed
  pub printed : after.printed ≡ before.printed
  pub ended : after.ended ≡ before.ended
  pub stopped : after.stopped ≡ before.stopped
  pub heard : after.heard ≡ before.heard
  pub gathered : (j : ℕ)
      → (after.stages j).marks.received ≡ (before.stages j).marks.received
  pub others : (j : ℕ) → j ≢ i → StaysAside (before.stages j) (after.stages j)
  pub links : (j : ℕ) → stands_on (slice_get parents j) (Some i) ≡ false
      → ((after.stages j).input.made ≡ (before.stages j).input.made)
      × ((after.stages j).input.sent ≡ (before.stages j).input.sent)

abbrev pub StageLeavesOthers : Type 0
StageLeavesOthers =
    (parents : List (Option ℕ)) (by : Definitions) (i : ℕ) (event : Event) → IsOwn i event
    → (state : State) → Asks parents by event state
    → Leaves parents i state (after parents event state)
