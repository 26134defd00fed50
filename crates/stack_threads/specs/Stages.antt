-- Stages between the ends of a tree's links.
use Rattle.std.specs.Prelude.{◌≡◌, true, List, [], ◌∷◌, length}
use Rattle.decoder_core.specs.declared.machine.Machine.{Ghosts as MachineGhosts}
use Rattle.decoder_core.specs.Inputs.{Item}
use Rattle.stack_laws.specs.Moves.{View}
use Rattle.stage_run.specs.Stages.{Means, PartsMean, blank, is_over, links, parts_links}
use Rattle.stage_run.specs.declared.stage.Parts.{Parts}
use Rattle.stage_run.specs.declared.stage.Stage.{Stage}
use Rattle.stack_threads.specs.Wires.{ends_links}
use Rattle.stack_threads.specs.declared.wiring.StageEnds.{StageEnds}

-- a stage has these ends
abbrev pub HasEnds : {M : Type 0} → StageEnds → Stage M → Type 0
HasEnds ends s = links s ≡ ends_links ends

-- each stage took the end, and has given all
abbrev pub AllOver : {M : Type 0} → List (Stage M) → Type 0
AllOver [] = Unit {0}
AllOver (s ∷ others) = (is_over s ≡ true) × AllOver others

module _ {M S : Type 0} (m : MachineGhosts M S) where
  -- a stage that has received and given nothing, of this machine
  pub record IsOpened (machine : M) (s : Stage M) : Type 0 where
    pub setup : m.setup s.machine ≡ m.setup machine
    pub means : (start : List Item) → m.consumed machine start
        → Means m start s (blank (length (links s).children))

  -- the parts of a stage that was over
  pub record Parted (s : Stage M) (p : Parts M) : Type 0 where
    pub same_links : parts_links p ≡ links s
    pub setup : m.setup p.machine ≡ m.setup s.machine
    pub means : (start : List Item) (view : View) → Means m start s view
        → PartsMean m start p view
