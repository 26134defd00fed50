-- The new links of a tree, made instance by instance.
use Rattle.std.specs.Prelude.{ℕ, zero, suc, ◌≡◌, List, [], ◌∷◌, ◌++◌, map, length, Option, Some}
use Rattle.std.specs.Prelude.{None}
use Rattle.std.specs.List.{All}
use Rattle.stage_ring.specs.Link.{Link, received, rx_link, sent, slots, tx_link}
use Rattle.stage_ring.specs.declared.ends.Tx.{Tx}
use Rattle.stage_run.specs.Inputs.{input_link, reads_samples, taken}
use Rattle.stage_run.specs.Stages.{Links}
use Rattle.stage_run.specs.declared.input.Input.{Input}
use Rattle.stage_run.specs.declared.input.HalfRun.{HalfRun}
use Rattle.stack_threads.specs.Trees.{Serves, Wired, is_root, on_place}
use Rattle.stack_threads.specs.declared.rooms.Rooms.{Rooms}
use Rattle.stack_threads.specs.declared.wiring.StageEnds.{StageEnds}
use Rattle.stack_threads.specs.declared.wiring.Wires.{Wires}

abbrev pub ends_links : StageEnds → Links
ends_links e = record {
  input = input_link e.input;
  samples = reads_samples e.input;
  children = map tx_link e.children.items;
  marks = tx_link e.marks;
}

abbrev pub all_links : Wires → List Links
all_links wires = map ends_links wires.ends.items

-- nothing was received or sent on them
pub record AreNew (e : StageEnds) : Type 0 where
  pub input : taken e.input ≡ 0
  pub children : All (λ child. sent child ≡ []) e.children.items
  pub marks : sent e.marks ≡ []

-- each end that it sends on has this room
pub record AreWide (rooms : Rooms) (e : StageEnds) : Type 0 where
  pub children : All (λ child. slots child ≡ rooms.others) e.children.items
  pub marks : slots e.marks ≡ rooms.others

-- the links of stages, where the one at a place has one more to a child
abbrev pub with_child : ℕ → Link → List Links → List Links
with_child place link [] = []
with_child zero link (s ∷ others) = record s { children = s.children ++ link ∷ [] } ∷ others
with_child (suc place) link (s ∷ others) = s ∷ with_child place link others

-- one more link to those that stand on a place
abbrev pub stages_with : Option ℕ → Link → List Links → List Links
stages_with None link stages = stages
stages_with (Some parent) link stages = with_child parent link stages

abbrev pub feeds_with : Option ℕ → Link → List Link → List Link
feeds_with None link feeds = feeds ++ link ∷ []
feeds_with (Some parent) link feeds = feeds

-- a new input was linked to what feeds those that stand on a place
pub record Joins (rooms : Rooms) (parent : Option ℕ) (input : Input) (ends_old ends_new : List StageEnds)
    (feeds_old feeds_new : List (Tx HalfRun)) : Type 0 where
  pub samples : reads_samples input ≡ is_root parent
  pub none : taken input ≡ 0
  pub stages : map ends_links ends_new
      ≡ stages_with parent (input_link input) (map ends_links ends_old)
  pub feeds : map tx_link feeds_new ≡ feeds_with parent (input_link input) (map tx_link feeds_old)
  pub still_ends : All AreNew ends_old → All AreNew ends_new
  pub still_feeds : All (λ feed. sent feed ≡ []) feeds_old
      → All (λ feed. sent feed ≡ []) feeds_new
  pub wide_ends : All (AreWide rooms) ends_old → All (AreWide rooms) ends_new
  pub wide_feeds : All (λ feed. slots feed ≡ rooms.half_runs) feeds_old
      → All (λ feed. slots feed ≡ rooms.half_runs) feeds_new

-- nothing was received or sent on any link
pub record AllNew (wires : Wires) : Type 0 where
  pub ends : All AreNew wires.ends.items
  pub feeds : All (λ feed. sent feed ≡ []) wires.feeds.items
  pub marks : All (λ mark. received mark ≡ []) wires.marks.items

-- every link has its room
pub record AllWide (rooms : Rooms) (wires : Wires) : Type 0 where
  pub ends : All (AreWide rooms) wires.ends.items
  pub feeds : All (λ feed. slots feed ≡ rooms.half_runs) wires.feeds.items

-- the links of one more instance, which stands on a place
pub record Grows (rooms : Rooms) (parent : Option ℕ) (old new : Wires) : Type 0 where
  pub input : Link
  pub marks : Link
  pub stages : all_links new ≡ stages_with parent input (all_links old)
      ++ (record { input = input; samples = is_root parent; children = []; marks = marks }) ∷ []
  pub feeds : map tx_link new.feeds.items ≡ feeds_with parent input (map tx_link old.feeds.items)
  pub gathers : map rx_link new.marks.items ≡ map rx_link old.marks.items ++ marks ∷ []
  pub still_new : AllNew old → AllNew new
  pub still_wide : AllWide rooms old → AllWide rooms new

-- new links of a tree
pub record AreWired (rooms : Rooms) (parents : List (Option ℕ)) (wires : Wires) : Type 0 where
  pub wired : Wired parents (all_links wires) (map tx_link wires.feeds.items)
      (map rx_link wires.marks.items)
  pub serves : Serves parents (all_links wires)
  pub roots : length (map tx_link wires.feeds.items) ≡ on_place None parents
  pub gathers : length (map rx_link wires.marks.items) ≡ length parents
  pub none : AllNew wires
  pub slots : AllWide rooms wires
