-- Floors of a tree that rests between two lists of runs: each instance has consumed what its parent
-- gives on the samples so far.
use Rattle.std.specs.Prelude.{ℕ, ◌≡◌, ◌≢◌, ◌+◌, ◌<◌, ◌≤◌, Bool, false, List, [], ◌∷◌, ◌++◌}
use Rattle.std.specs.Prelude.{length, Option, Some, None, get_or, slice_get}
use Rattle.la_base.specs.declared.wires.Mark.{Mark}
use Rattle.la_base.specs.declared.wires.Mark.TheVariants.{Note as NoteMark, Piece as PieceMark}
use Rattle.la_base.specs.declared.wires.Mark.TheVariants.{Floor as FloorMark, End as EndMark}
use Rattle.la_base.specs.declared.wires.Out.{Out}
use Rattle.decoder_core.specs.Inputs.{Item}
use Rattle.decoder_core.specs.Promises.{NotesFrom, PacketsFrom}
use Rattle.tree_runs.specs.Machines.{near_at, whole_of}
use Rattle.tree_runs.specs.Passing.{Took}
use Rattle.tree_runs.specs.Runs.{IsLeast, StandOn, input_on}

-- floors as a list
abbrev pub floor_in : List ℕ → ℕ → ℕ
floor_in floors j = get_or floors j 0

module _ {S : Type 0} (outputs : S → List Item → List Out) (setups : List S)
    (parents : List (Option ℕ)) where
  abbrev whole : ℕ → List Item → List Out
  whole j = whole_of outputs setups j

  abbrev input : List ℕ → ℕ → List Item
  input samples j = input_on outputs setups parents samples j

  -- *low*: whatever samples follow these, each note and each packet that they add to what an
  -- instance gives starts there or later
  abbrev pub IsLow : List ℕ → ℕ → ℕ → Type 0
  IsLow samples j floor =
      (more : List ℕ) (new : List Out)
      → whole j (input (samples ++ more) j) ≡ whole j (input samples j) ++ new
      → NotesFrom floor new × PacketsFrom floor new

  -- marks of an instance that are floors alone, each of them low
  abbrev pub AreLow : List ℕ → ℕ → List Mark → Type 0
  AreLow samples j [] = Unit {0}
  AreLow samples j (FloorMark floor ∷ marks) = IsLow samples j floor × AreLow samples j marks
  AreLow samples j (NoteMark note ∷ marks) = ⊥
  AreLow samples j (PieceMark piece ∷ marks) = ⊥
  AreLow samples j (EndMark ∷ marks) = ⊥

  module _ (near : S → List Item → ℕ → ℕ) (stand : ℕ → List Item → Type 0) where
    -- the floors of the instances before a place are low, and hold nothing back, on whatever
    -- samples these stand
    abbrev pub KnowsLow : List ℕ → ℕ → Type 0
    KnowsLow floors place =
        (samples : List ℕ) → StandOn outputs setups parents stand samples → (k : ℕ) → k < place
        → IsLow samples k (floor_in floors k)
        × IsLeast outputs near setups parents (floor_in floors) samples k

    -- floors were told of the instances before a place, each of them low; where it wasn't stopped,
    -- these ones
    pub record TellsLow (done : Bool) (took_old took_new : (ℕ → List Mark) → Type 0)
        (floors : List ℕ) (place : ℕ) : Type 0 where
      pub marks : ℕ → List Mark
      pub took : Took took_old took_new marks
      pub low : (samples : List ℕ) → StandOn outputs setups parents stand samples → (j : ℕ)
          → AreLow samples j (marks j)
      pub some : done ≡ false → (j : ℕ) × (marks j ≢ [])
      pub these : (j : ℕ) → j < place → marks j ≡ FloorMark (floor_in floors j) ∷ []
      pub none : (j : ℕ) → place ≤ j → marks j ≡ []
