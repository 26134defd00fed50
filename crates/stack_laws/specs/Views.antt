-- What a stage of a tree has, and its moves as events of the tree.
use Rattle.std.specs.Prelude.{ℕ, Bool, List, [], map, length, get_or, slice_get, Option, Some, None}
use Rattle.std.specs.List.{filter, range_with_len}
use Rattle.la_base.specs.declared.samples.Run.{Run}
use Rattle.la_base.specs.declared.wires.Feed.{Feed}
use Rattle.la_base.specs.declared.wires.Mark.{Mark}
use Rattle.stack_laws.specs.Running.{Stage, State, stands_on}
use Rattle.stack_laws.specs.Events.{Event, Take, Close, Step, Give, Tell}
use Rattle.stack_laws.specs.Moves.{View, Sending, Move, TakeIn, CloseUp, StepOn, GiveTo, TellOut}

-- what the sender of a stage's input has for it
abbrev pub sending_to : Stage → Sending Feed
sending_to stage = record { made = stage.input.made; sent = stage.input.sent }

module _ (parents : List (Option ℕ)) (i : ℕ) where
  -- those that stand on stage i, by their numbers
  abbrev pub children_of : List ℕ
  children_of =
      filter (λ j. stands_on (slice_get parents j) (Some i)) (range_with_len 0 (length parents))

  -- what stage i has in a state
  abbrev pub view_of : State → View
  view_of state = record {
    received = (state.stages i).input.received;
    consumed = (state.stages i).consumed;
    told = (state.stages i).told;
    children = map (λ j. sending_to (state.stages j)) children_of;
    marks = record { made = (state.stages i).marks.made; sent = (state.stages i).marks.sent };
    closed = (state.stages i).closed;
  }

  -- a move of stage i as an event of the tree
  abbrev pub event_of : Move → Event
  event_of (TakeIn feed) = Take i feed
  event_of CloseUp = Close i
  event_of (StepOn items new floor) = Step i items new floor
  event_of (GiveTo k feed) = Give i (get_or children_of k 0) feed
  event_of (TellOut mark) = Tell i mark

-- what the stages of a tree, and the driver, hold at the ends of its links: what each stage has,
-- what the driver has for each root, and the marks that it gathered of each stage
pub record Ends : Type 0 where
  pub views : ℕ → View
  pub roots : ℕ → Sending Feed
  pub gathered : ℕ → List Mark

abbrev pub no_sending : Sending Feed
no_sending = record { made = []; sent = [] }

-- the place of an instance among those that stand on a parent
abbrev pub place_among : List (Option ℕ) → ℕ → ℕ → ℕ
place_among parents parent j =
    length (filter (λ k. stands_on (slice_get parents k) (Some parent)) (range_with_len 0 j))

module _ (parents : List (Option ℕ)) (ends : Ends) where
  -- what its sender has for an instance: nothing outside of the tree; the driver, for a root; or
  -- its parent
  abbrev pub sender : ℕ → Option (Option ℕ) → Sending Feed
  sender j None = no_sending
  sender j (Some None) = ends.roots j
  sender j (Some (Some parent)) =
      get_or (ends.views parent).children (place_among parents parent j) no_sending

  abbrev pub stage_of : ℕ → Stage
  stage_of j = record {
    input = record {
      made = (sender j (slice_get parents j)).made;
      sent = (sender j (slice_get parents j)).sent;
      received = (ends.views j).received;
    };
    consumed = (ends.views j).consumed;
    told = (ends.views j).told;
    marks = record {
      made = (ends.views j).marks.made;
      sent = (ends.views j).marks.sent;
      received = ends.gathered j;
    };
    closed = (ends.views j).closed;
  }

  -- the one state that they make, once the reader has heard of a stop
  abbrev pub state_of : List Run → Bool → Bool → State
  state_of fed ended stopped = record {
    fed = fed;
    stages = stage_of;
    printed = [];
    ended = ended;
    stopped = stopped;
    heard = stopped;
  }
