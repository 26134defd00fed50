-- What is done with a tree of machines, and with what takes its marks.
use Rattle.std.specs.Prelude.{ℕ, ◌≡◌, ◌≤◌, ◌∷◌, [], Bool, true, false, List, Option, Result, Ok}
use Rattle.std.specs.Prelude.{Err, length, map, slice_get}
use Rattle.std.specs.Result.{is_ok}
use Rattle.la_base.specs.declared.samples.Run.{Run}
use Rattle.la_base.specs.declared.wires.Mark.{Mark}
use Rattle.la_base.specs.declared.wires.Out.{Out}
use Rattle.la_base.specs.declared.wires.Out.TheVariants.{Note as NoteOut, Piece as PieceOut}
use Rattle.la_base.specs.declared.wires.Out.TheVariants.{Packet as PacketOut}
use Rattle.tree_io.specs.declared.feeds.MarkTake.{Ghosts as TakeGhosts}
use Rattle.decoder_core.specs.declared.machine.Machine.{Ghosts as MachineGhosts}
use Rattle.decoder_core.specs.Inputs.{Item}
use Rattle.tree_runs.specs.Machines.{Definitions, Stand, defined, near_at}
use Rattle.tree_runs.specs.Passing.{Hands, Feeds, Consumes, Gives}
use Rattle.tree_runs.specs.Lows.{IsLow, KnowsLow, TellsLow, floor_in}
use Rattle.tree_runs.specs.Runs.{FedRuns, StandOn, above_by, input_on}
use Rattle.tree_runs.specs.Taking.{GoesOn, KeepsOn}
use Rattle.stack_direct.specs.declared.run.Halt.{Halt}
use Rattle.stack_direct.specs.declared.run.Halt.TheVariants.{AtMark, InPause}
use Rattle.stack_direct.specs.declared.tree.Tree.{Tree}

-- the packets among outputs
abbrev pub handed_of : List Out → List Out
handed_of [] = []
handed_of (NoteOut note ∷ outs) = handed_of outs
handed_of (PieceOut piece ∷ outs) = handed_of outs
handed_of (PacketOut packet ∷ outs) = PacketOut packet ∷ handed_of outs

abbrev pub machines_of : {M : Type 0} → Tree M → List M
machines_of tree = tree.machines.now

abbrev pub parents_of : {M : Type 0} → Tree M → List (Option ℕ)
parents_of tree = tree.parents.now

module _ {M S : Type 0} (m : MachineGhosts M S) where
  -- the inputs that the machines stand for, by their places
  abbrev pub stand_in : Tree M → ℕ → List Item → Type 0
  stand_in tree = Stand m.consumed (machines_of tree)

  -- what they give on whole inputs, and their near floors
  abbrev pub defined_in : Tree M → Definitions
  defined_in tree = defined m.outputs m.near (map m.setup (machines_of tree))

  -- the machines stand for their inputs on samples
  abbrev pub TreeStands : Tree M → List ℕ → Type 0
  TreeStands tree =
      StandOn m.outputs (map m.setup (machines_of tree)) (parents_of tree) (stand_in tree)

  -- after samples, this is a floor of one of them
  abbrev pub TreeLow : Tree M → List ℕ → ℕ → ℕ → Type 0
  TreeLow tree = IsLow m.outputs (map m.setup (machines_of tree)) (parents_of tree)

  -- this is at least what one of them may not promise more than, by the floors of all
  abbrev pub TreeLeast : Tree M → List ℕ → List ℕ → ℕ → ℕ → Type 0
  TreeLeast tree floors samples j floor =
      near_at m.near (slice_get (map m.setup (machines_of tree)) j)
      (input_on m.outputs (map m.setup (machines_of tree)) (parents_of tree) samples j)
      (above_by (floor_in floors) (slice_get (parents_of tree) j)) ≤ floor

  -- these are floors of those before a place, which hold nothing back
  abbrev pub TreeKnows : Tree M → List ℕ → ℕ → Type 0
  TreeKnows tree =
      KnowsLow m.outputs (map m.setup (machines_of tree)) (parents_of tree) m.near (stand_in tree)

  -- floors were told of those before a place
  abbrev pub TreeTellsTo : Tree M → Bool → ((ℕ → List Mark) → Type 0) → ((ℕ → List Mark) → Type 0)
      → List ℕ → ℕ → Type 0
  TreeTellsTo tree =
      TellsLow m.outputs (map m.setup (machines_of tree)) (parents_of tree) m.near (stand_in tree)

  -- floors were told of all, or of some of them
  abbrev pub TreeTells : Tree M → Bool → ((ℕ → List Mark) → Type 0) → ((ℕ → List Mark) → Type 0)
      → List ℕ → Type 0
  TreeTells tree done old new floors =
      (place : ℕ) × (done ≡ true → place ≡ length (parents_of tree))
      × TreeTellsTo tree done old new floors place

  -- the same machines by the same setups, on the same places
  pub record SameTree (old new : Tree M) : Type 0 where
    pub machines : new.machines.ghost_name ≡ old.machines.ghost_name
    pub parents : parents_of new ≡ parents_of old
    pub setups : map m.setup (machines_of new) ≡ map m.setup (machines_of old)

module _ {A O : Type 0} (g : TakeGhosts A O) where
  -- marks are taken of each instance
  abbrev pub TakesAll : {M : Type 0} → Tree M → A → Type 0
  TakesAll tree take = g.instances take ≡ length (parents_of tree)

  -- marks were taken one behind another
  abbrev pub TakesOn : {R E : Type 0} → A → A → Result R E → Type 0
  TakesOn old new result = GoesOn g.instances g.origin g.stops g.going old new result

  -- the same, and it stopped at none
  abbrev pub GoesStill : A → A → Type 0
  GoesStill old new = KeepsOn g.instances g.origin g.stops g.going old new

module _ {M S A O R E : Type 0} (m : MachineGhosts M S) (g : TakeGhosts A O) (old new : Tree M)
    (take_old take_new : A) (result : Result R E) where
  -- those that stand on `above` were given these items, as one feed
  abbrev pub TreeHands : Option ℕ → List Item → Type 0
  TreeHands above items =
      Hands (is_ok result) (defined_in m old) (stand_in m old) (stand_in m new) (parents_of old)
      (g.took take_old) (g.took take_new) above (λ _. items) (λ _. items ∷ [])

  -- an instance was given these items, as one feed
  abbrev pub TreeFeeds : ℕ → List Item → Type 0
  TreeFeeds i items =
      Feeds (is_ok result) (defined_in m old) (stand_in m old) (stand_in m new) (parents_of old)
      (g.took take_old) (g.took take_new) i items

  -- an instance was given these items, without a floor behind them
  abbrev pub TreeConsumes : ℕ → List Item → Type 0
  TreeConsumes i items =
      Consumes (is_ok result) (defined_in m old) (stand_in m old) (stand_in m new) (parents_of old)
      (g.took take_old) (g.took take_new) i items

  -- these outputs of an instance were given
  abbrev pub TreeGives : ℕ → List Out → Type 0
  TreeGives i outs =
      Gives (is_ok result) (defined_in m old) (stand_in m old) (stand_in m new) (parents_of old)
      (g.took take_old) (g.took take_new) i outs

-- whether the runs were handed on whole, where they were given: they were unless it was stopped at a
-- mark
abbrev pub handed_whole : Result (Unit {0}) Halt → Bool
handed_whole (Ok done) = true
handed_whole (Err AtMark) = false
handed_whole (Err InPause) = true

module _ {M S A O : Type 0} (m : MachineGhosts M S) (g : TakeGhosts A O) (old new : Tree M)
    (take_old take_new : A) (result : Result (Unit {0}) Halt) where
  -- lists of runs were given, and handed down the tree, with floors after each of them
  abbrev pub TreeFed : (List (List Run) → Type 0) → (List (List Run) → Type 0) → Type 0
  TreeFed gave_old gave_new =
      FedRuns m.outputs m.near (map m.setup (machines_of old)) (parents_of old)
      (handed_whole result) (stand_in m old) (stand_in m new) gave_old gave_new (g.took take_old)
      (g.took take_new)
