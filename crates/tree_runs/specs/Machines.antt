-- The machines of a tree by their places.
use Rattle.std.specs.Prelude.{ℕ, suc, ◌≡◌, ◌≢◌, ◌<◌, ◌++◌, take, List, [], length, slice_get}
use Rattle.std.specs.Prelude.{get_or, Option, Some, None, Result, Ok, Err}
use Rattle.la_base.specs.declared.samples.Run.{Run}
use Rattle.la_base.specs.declared.wires.Feed.{Feed}
use Rattle.la_base.specs.declared.wires.Out.{Out}
use Rattle.decoder_core.specs.Driving.{Steps, StepsRuns}
use Rattle.decoder_core.specs.Inputs.{Item, items_of}

-- the machine at a place stands for this input
abbrev pub Stand : {M : Type 0} → (M → List Item → Type 0) → List M → ℕ → List Item → Type 0
Stand {M} consumed machines j input =
    (j < length machines) × ((d : M) → consumed (get_or machines j d) input)

abbrev pub outputs_at : {S : Type 0} → (S → List Item → List Out) → Option S → List Item → List Out
outputs_at outputs None input = []
outputs_at outputs (Some setup) input = outputs setup input

-- the outputs of the instance at a place, by its definition
abbrev pub whole_of : {S : Type 0} → (S → List Item → List Out) → List S → ℕ → List Item → List Out
whole_of outputs setups j input = outputs_at outputs (slice_get setups j) input

-- the near floor of the instance at a place, by its definition, where each packet that comes starts
-- at `above` or later
abbrev pub near_at : {S : Type 0} → (S → List Item → ℕ → ℕ) → Option S → List Item → ℕ → ℕ
near_at near None input above = 0
near_at near (Some setup) input above = near setup input above

abbrev pub near_of : {S : Type 0} → (S → List Item → ℕ → ℕ) → List S → ℕ → List Item → ℕ
near_of near setups j input = near_at near (slice_get setups j) input 0

-- what instances give on whole inputs, and their near floors, by their definitions and places
pub record Definitions : Type 0 where
  pub whole : ℕ → List Item → List Out
  pub near : ℕ → List Item → ℕ

abbrev pub defined : {S : Type 0} → (S → List Item → List Out) → (S → List Item → ℕ → ℕ) → List S
    → Definitions
defined outputs near setups = record { whole = whole_of outputs setups; near = near_of near setups }

-- the machine at a place took a step, and no other did
pub record StepsAt (i : ℕ) (whole : ℕ → List Item → List Out)
    (before after : ℕ → List Item → Type 0) (feed : Feed) (left : Option Feed)
    (into : List Out) : Type 0 where
  pub here : Steps (before i) (after i) (whole i) feed left into
  pub others : (j : ℕ) → j ≢ i → (input : List Item) → before j input → after j input

-- the machine at a place took steps over runs of these samples, and no other did
pub record StepsRunsAt (i : ℕ) (whole : ℕ → List Item → List Out)
    (before after : ℕ → List Item → Type 0) (samples : List ℕ) (rest : Option Run)
    (into : List Out) : Type 0 where
  pub here : StepsRuns (before i) (after i) (whole i) samples rest into
  pub others : (j : ℕ) → j ≢ i → (input : List Item) → before j input → after j input

-- either: it consumed these items, which give these outputs
pub record MovesAt (i : ℕ) (whole : ℕ → List Item → List Out)
    (before after : ℕ → List Item → Type 0) (front : List Item) (into : List Out) : Type 0 where
  pub consumes : (input : List Item) → before i input → after i (input ++ front)
  pub gives : (input : List Item) → before i input
      → whole i (input ++ front) ≡ whole i input ++ into
  pub others : (j : ℕ) → j ≢ i → (input : List Item) → before j input → after j input

-- the runs of which a number was taken; all where it was stopped on the way
abbrev pub taken_of : {E : Type 0} → Result ℕ E → List Run → List Run
taken_of (Ok count) runs = take count runs
taken_of (Err stopped) runs = runs

-- what is left to do of a feed: more than of any rest of it
abbrev pub left_work : Option Feed → ℕ
left_work None = 0
left_work (Some feed) = suc (length (items_of feed))
