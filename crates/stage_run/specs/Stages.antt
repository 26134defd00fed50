-- What a contract sees of a stage.
use Rattle.std.specs.Prelude.{ℕ, ◌≡◌, ◌≤◌, ◌<◌, ◌+◌, ◌*◌, ◌-◌, ◌^◌, ◌⊎◌, min, Bool, true, false, ◌&&◌}
use Rattle.std.specs.Prelude.{List, [], ◌++◌, length, map, replicate}
use Rattle.std.specs.List.{All}
use Rattle.la_base.specs.Runs.{samples_of}
use Rattle.la_base.specs.declared.wires.Out.{Out}
use Rattle.la_io.specs.Causes.{Rose}
use Rattle.tree_io.specs.Feeds.{together}
use Rattle.decoder_core.specs.declared.machine.Machine.{Ghosts as MachineGhosts}
use Rattle.decoder_core.specs.Inputs.{Item}
use Rattle.stack_laws.specs.Links.{some}
use Rattle.stack_laws.specs.Feeds.{ends_feed, items_in}
use Rattle.stack_laws.specs.Heeding.{above_in}
use Rattle.stack_laws.specs.Keeping.{Keeps}
use Rattle.stack_laws.specs.Moves.{Move, TakeIn, CloseUp, StepOn, GiveTo, TellOut, Sending, View}
use Rattle.stack_laws.specs.Moves.{MayMoveAll, moved_all}
use Rattle.stack_laws.specs.Rests.{near_behind, whole_behind}
use Rattle.stage_ring.specs.Link.{Link, sent, tx_link}
use Rattle.stage_run.specs.Boxes.{SameSent, children_of, given_by, missed_by, received_of, told_of}
use Rattle.stage_run.specs.Boxes.{LieIn, is_empty, left_in, waiting_of}
use Rattle.stage_run.specs.Rows.{waiting}
use Rattle.stage_run.specs.Inputs.{came, input_link, input_misses, reads_samples, taken}
use Rattle.stage_run.specs.declared.input.Input.{Input}
use Rattle.stage_run.specs.declared.outbox.Outbox.{Outbox}
use Rattle.stage_run.specs.declared.stage.Stage.{Stage}
use Rattle.stage_run.specs.declared.stage.Parts.{Parts}
use Rattle.stage_run.specs.declared.turn.Turn.{Turn}
use Rattle.stage_run.specs.declared.turn.Turn.TheVariants.{Moved, Idle, Ended}

-- the kinds of moves
pub data Kind : Type 0 where
  Taking : Kind
  Closing : Kind
  Stepping : Kind
  Giving : Kind
  Telling : Kind

abbrev pub kind_of : Move → Kind
kind_of (TakeIn feed) = Taking
kind_of CloseUp = Closing
kind_of (StepOn items new floor) = Stepping
kind_of (GiveTo place feed) = Giving
kind_of (TellOut mark) = Telling

abbrev pub AreOf : Kind → List Move → Type 0
AreOf kind moves = All (λ move. kind_of move ≡ kind) moves

-- *act*: at most 65 moves of one kind
abbrev pub IsAct : List Move → Type 0
IsAct moves = (kind : Kind) × (length moves ≤ 65) × AreOf kind moves

-- the links of a stage; and whether it receives samples
pub record Links : Type 0 where
  pub input : Link
  pub samples : Bool
  pub children : List Link
  pub marks : Link

abbrev pub links_by : Input → Outbox → Links
links_by input outbox = record {
  input = input_link input;
  samples = reads_samples input;
  children = map tx_link outbox.children.items;
  marks = tx_link outbox.marks;
}

-- nothing was received, made or sent
abbrev pub no_sending : {T : Type 0} → Sending T
no_sending = record { made = []; sent = [] }

abbrev pub blank : ℕ → View
blank children = record {
  received = [];
  consumed = [];
  told = true;
  children = replicate children no_sending;
  marks = no_sending;
  closed = false;
}

-- this, where it isn't done yet
abbrev pub owed : Bool → ℕ → ℕ
owed true n = 0
owed false n = n

module _ {M : Type 0} where
  abbrev pub links : Stage M → Links
  links s = links_by s.inbox.input s.outbox

  -- the end was taken, and all was given
  abbrev pub is_over : Stage M → Bool
  is_over s = s.closed && is_empty s.outbox

  -- how many things it has taken and given
  abbrev pub passed : Stage M → ℕ
  passed s = given_by s.outbox + taken s.inbox.input

  -- the misses of all its ends together
  abbrev pub missed : Stage M → ℕ
  missed s = missed_by s.outbox + input_misses s.inbox.input

  -- these, or the last value of their type
  abbrev pub misses_of : Stage M → ℕ
  misses_of s = min (missed s) (2 ^ 64 - 1)

  -- how much is left to do: of what was received, to tell a floor after it, and to make the end
  abbrev pub left_of : Stage M → ℕ
  left_of s = 3 * left_in s.inbox + owed s.floor_sent 2 + owed s.closed 1

  -- nothing was given or taken, and the end neither came nor was told
  pub record SameEnds (old new : Stage M) : Type 0 where
    pub input : new.inbox.input ≡ old.inbox.input
    pub over : new.inbox.over ≡ old.inbox.over
    pub sent : SameSent old.outbox new.outbox
    pub closed : new.closed ≡ old.closed

  -- what the answer of a turn says: it has ended exactly where the end was taken and all was given;
  -- it is idle where it gave and took nothing, as much is left to do, and its misses rose; and it has
  -- moved where it gave or took something, or less is left to do
  abbrev pub Answers : Turn → Stage M → Stage M → Type 0
  Answers Ended old new = is_over new ≡ true
  Answers Idle old new =
      (is_over new ≡ false) × (passed new ≡ passed old) × (left_of new ≡ left_of old)
      × Rose (misses_of old) (misses_of new)
  Answers Moved old new =
      (is_over new ≡ false) × ((passed old < passed new) ⊎ (left_of new < left_of old))

  abbrev pub parts_links : Parts M → Links
  parts_links p = record {
    input = input_link p.input;
    samples = reads_samples p.input;
    children = map tx_link p.children.items;
    marks = tx_link p.marks;
  }

-- all that was made for a link was sent
abbrev pub all_sent : {T : Type 0} → List T → Sending T
all_sent sent = record { made = sent; sent = sent }

module _ {M S : Type 0} (m : MachineGhosts M S) where
  -- the parts of a stage that has ended have this: all that was received was consumed, and all that
  -- was made was sent
  pub record PartsMean (start : List Item) (p : Parts M) (view : View) : Type 0 where
    pub received : view.received ≡ came p.input
    pub stands : m.consumed p.machine (start ++ view.consumed)
    pub children : view.children ≡ map (λ child. all_sent (sent child)) p.children.items
    pub marks : view.marks ≡ all_sent (sent p.marks)
    pub closed : view.closed ≡ true

  -- a stage, whose machine had consumed an input at first, has this
  pub record Means (start : List Item) (s : Stage M) (view : View) : Type 0 where
    pub received : view.received ≡ received_of s.inbox
    pub stands : m.consumed s.machine (start ++ view.consumed)
    pub left : items_in view.received ≡ view.consumed ++ waiting_of s.inbox
    pub over : s.inbox.over ≡ true → some ends_feed view.received ≡ true
    pub above : s.above ≤ above_in view.received (length view.consumed)
    pub lies : LieIn view.received
        (length view.consumed + length (samples_of (waiting s.inbox.runs))) (waiting s.inbox.feeds)
    pub told : view.told ≡ s.floor_sent
    pub children : view.children ≡ children_of s.outbox
    pub marks : view.marks ≡ told_of s.outbox
    pub closed : view.closed ≡ s.closed

  -- what its machine gives behind such an input, by its definition, and its near floor there
  abbrev pub whole_at : List Item → Stage M → List Item → List Out
  whole_at start s = whole_behind (m.outputs (m.setup s.machine)) start

  abbrev pub near_at : List Item → Stage M → List Item → ℕ
  near_at start s = near_behind (λ input. m.near (m.setup s.machine) input 0) start

  -- it may make these moves, and has made them
  pub record Moves (start : List Item) (old new : Stage M) (view : View) (moves : List Move)
      : Type 0 where
    pub may : MayMoveAll (whole_at start old) (near_at start old) moves view
    pub means : Means start new (moved_all moves view)

  -- it has made at most so many moves of one kind
  pub record Goes (kind : Kind) (few : ℕ) (old new : Stage M) : Type 0 where
    pub links : links new ≡ links old
    pub setup : m.setup new.machine ≡ m.setup old.machine
    pub moves : (start : List Item) (view : View) → Means start old view
        → (moves : List Move) × (length moves ≤ few) × AreOf kind moves
        × Moves start old new view moves

  -- it has made an act
  pub record ActsOnce (old new : Stage M) : Type 0 where
    pub links : links new ≡ links old
    pub setup : m.setup new.machine ≡ m.setup old.machine
    pub act : (start : List Item) (view : View) → Means start old view
        → (moves : List Move) × IsAct moves × Moves start old new view moves

  -- it has made at most so many acts, one behind another
  pub record ActsOn (budget : ℕ) (old new : Stage M) : Type 0 where
    pub links : links new ≡ links old
    pub setup : m.setup new.machine ≡ m.setup old.machine
    pub acts : (start : List Item) (view : View) → Means start old view
        → (acts : List (List Move)) × (length acts ≤ budget) × All IsAct acts
        × Moves start old new view (together acts)

  -- where what it has is what its machine gives on what it has consumed, it still is: the marks and
  -- the feeds that it has made, in order, and its floors
  abbrev pub KeepsOn : Stage M → Stage M → Type 0
  KeepsOn old new =
      (start : List Item) (view : View) → Means start old view
      → Keeps (whole_at start old) (near_at start old) view
      → (now : View) × Means start new now × Keeps (whole_at start new) (near_at start new) now
