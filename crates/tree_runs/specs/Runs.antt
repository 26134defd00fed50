-- What a run of a tree of decoders gives: for each instance the notes and pieces of its definition
-- on its whole input.
use Rattle.std.specs.Prelude.{ℕ, ◌≡◌, ◌<◌, ◌≤◌, ◌≢◌, ◌⊎◌, drop, take, nat_lt, ◌||◌, Bool, true}
use Rattle.std.specs.Prelude.{false, if◌then◌else◌}
use Rattle.std.specs.Prelude.{List, [], ◌∷◌, ◌++◌, map, length, slice_get, Option, Some, None}
use Rattle.la_base.specs.Runs.{samples_of}
use Rattle.la_base.specs.declared.samples.Run.{Run}
use Rattle.la_base.specs.declared.wires.Mark.{Mark}
use Rattle.la_base.specs.declared.wires.Mark.TheVariants.{Floor as FloorMark, End as EndMark}
use Rattle.la_base.specs.declared.wires.Out.{Out}
use Rattle.tree_io.specs.Feeds.{together}
use Rattle.decoder_core.specs.Inputs.{Item, Sample}
use Rattle.decoder_core.specs.Trees.{Node, given, input_of}
use Rattle.decoder_core.specs.Marks.{shown, FloorsHold}
use Rattle.tree_io.specs.Feeds.{marks_of}
use Rattle.decoder_core.specs.declared.end.RunEnd.{RunEnd}
use Rattle.decoder_core.specs.declared.end.RunEnd.TheVariants.{Ended, Stopped}
use Rattle.tree_runs.specs.Floors.{Floored, FrontOfFloored, WithFloors, alone}
use Rattle.tree_runs.specs.Machines.{near_at, near_of, whole_of}
use Rattle.tree_runs.specs.Passing.{NoEnd, Took}
use Rattle.tree_runs.specs.Reaching.{Reaches}

-- the decoders of a tree, by their setups and the places that they stand on
abbrev pub nodes_of : {S : Type 0} → List S → List (Option ℕ) → List (Node S)
nodes_of [] parents = []
nodes_of (setup ∷ setups) [] = []
nodes_of (setup ∷ setups) (parent ∷ parents) =
    record { setup = setup; parent = parent } ∷ nodes_of setups parents

abbrev pub input_by : {S : Type 0} → List ℕ → List (List Out) → Option (Node S) → List Item
input_by samples all None = []
input_by samples all (Some node) = input_of samples all node.parent

-- what the instance at a place reads, on samples
abbrev pub input_at : {S : Type 0} → (S → List Item → List Out) → List (Node S) → List ℕ → ℕ
    → List Item
input_at outputs nodes samples j =
    input_by samples (given outputs samples nodes) (slice_get nodes j)

-- the samples of lists of runs
abbrev pub samples_in : List (List Run) → List ℕ
samples_in lists = samples_of (together lists)

-- runs as a feed
abbrev pub run_items : List Run → List Item
run_items runs = map Sample (samples_of runs)

-- the feeds of an instance, by the place on which it stands: of a root each list of runs; of any
-- other each packet that its input gained
abbrev pub feeds_of : List (List Run) → Option (Option ℕ) → List Item → List Item
    → List (List Item)
feeds_of lists None was now = []
feeds_of lists (Some None) was now = map run_items lists
feeds_of lists (Some (Some parent)) was now = alone (drop (length was) now)

-- the marks that were taken of an instance, whose outputs by its definition are `whole`, and whose
-- input grew from `was` to `now` by these feeds: the notes and pieces that this adds, in their
-- order, each once, or a front of them; at each floor all that starts before it has been taken,
-- whatever samples come, with which its input is `later`; and after each feed that was handed
-- whole comes a floor
pub record ToldOf (done : Bool) (whole : List Item → List Out) (near : List Item → ℕ)
    (was now : List Item) (later : List ℕ → List Item) (feeds : List (List Item))
    (marks : List Mark) : Type 0 where
  pub new : List Out
  pub no_end : NoEnd marks
  pub adds : whole now ≡ whole was ++ new
  pub shows : Reaches done (shown marks) (marks_of new)
  pub floors : (more : List ℕ) (rest : List Out)
      → whole (later more) ≡ whole was ++ (new ++ rest) → FloorsHold marks (marks_of (new ++ rest))
  pub plain : List Mark
  pub more_floors : WithFloors plain marks
  pub floored : FrontOfFloored done whole near was feeds plain

-- the same, and End last and nowhere else, and only after all of them
pub record ToldOn (result : RunEnd) (at_end : Bool) (whole : List Item → List Out)
    (near : List Item → ℕ) (was now : List Item) (later : List ℕ → List Item)
    (feeds : List (List Item)) (marks : List Mark) : Type 0 where
  pub body : List Mark
  pub closed : Bool
  pub made : marks ≡ body ++ (if closed then EndMark ∷ [] else [])
  pub tells : ToldOf closed whole near was now later feeds body
  pub whole_at_end : closed ≡ true → at_end ≡ true
  pub closes : result ≡ Ended → closed ≡ true

-- End was taken of the instances before place k
abbrev pub TookEnds : ((ℕ → List Mark) → Type 0) → ((ℕ → List Mark) → Type 0) → ℕ → Type 0
TookEnds old new k = Took old new (λ j. if nat_lt j k then EndMark ∷ [] else [])

-- a run came to its end
abbrev pub is_ended : RunEnd → Bool
is_ended Ended = true
is_ended Stopped = false

-- the floor of what an instance stands on; 0 where it stands on nothing
abbrev pub above_by : (ℕ → ℕ) → Option (Option ℕ) → ℕ
above_by floors None = 0
above_by floors (Some None) = 0
above_by floors (Some (Some parent)) = floors parent

-- the first k of some lists were handed on whole: all but the last, and where it wasn't stopped all
abbrev pub WereWhole : Bool → List (List Run) → ℕ → Type 0
WereWhole done lists k = (k < length lists) ⊎ ((done ≡ true) × (k ≡ length lists))

-- what was given and not handed on whole: nothing, where it was stopped at the end of the feed or in a
-- pause; else one list
abbrev pub LeftBy : Bool → List (List Run) → Type 0
LeftBy true left = left ≡ []
LeftBy false left = (last : List Run) × (left ≡ last ∷ [])

module _ {S : Type 0} (outputs : S → List Item → List Out) (setups : List S)
    (parents : List (Option ℕ)) where
  abbrev pub input_on : List ℕ → ℕ → List Item
  input_on samples j = input_at outputs (nodes_of setups parents) samples j

  -- each instance stands for its input on these samples
  abbrev pub StandOn : (ℕ → List Item → Type 0) → List ℕ → Type 0
  StandOn stand samples = (j : ℕ) → j < length parents → stand j (input_on samples j)

  -- the feeds of an instance where lists of runs come behind samples
  abbrev pub feeds_on : List ℕ → List (List Run) → ℕ → List (List Item)
  feeds_on samples lists j =
      feeds_of lists (slice_get parents j) (input_on samples j)
      (input_on (samples ++ samples_in lists) j)

module _ {S : Type 0} (outputs : S → List Item → List Out) (near : S → List Item → ℕ → ℕ)
    (setups : List S) (parents : List (Option ℕ)) where
  abbrev input : List ℕ → ℕ → List Item
  input samples j = input_on outputs setups parents samples j

  abbrev feeds : List ℕ → List (List Run) → ℕ → List (List Item)
  feeds samples lists j = feeds_on outputs setups parents samples lists j

  -- *holds nothing back*: the floor of an instance is at least where that starts which has begun in
  -- it; where nothing has, the floor of what it stands on
  abbrev pub IsLeast : (ℕ → ℕ) → List ℕ → ℕ → Type 0
  IsLeast floors samples j =
      near_at near (slice_get setups j) (input samples j)
      (above_by floors (slice_get parents j)) ≤ floors j

  -- after samples, floors were told that hold nothing back; before that of an instance stands all
  -- that it gives on the samples
  pub record RestsAt (was now : List ℕ) (marks : ℕ → List Mark) : Type 0 where
    pub floors : ℕ → ℕ
    pub least : (j : ℕ) → j < length parents → IsLeast floors now j
    pub told : (j : ℕ) → j < length parents
        → (earlier : List Mark) × (later : List Mark) × (new : List Out)
        × (marks j ≡ earlier ++ FloorMark (floors j) ∷ later)
        × (whole_of outputs setups j (input now j) ≡ whole_of outputs setups j (input was j) ++ new)
        × (shown earlier ≡ marks_of new)

  -- where the handing on of lists of runs was stopped: after these lists, which were handed on
  -- whole, some mark was taken
  pub record BrokenIn (samples : List ℕ) (lists : List (List Run)) (marks : ℕ → List Mark)
      : Type 0 where
    pub done : List (List Run)
    pub last : List Run
    pub split : lists ≡ done ++ last ∷ []
    pub front : ℕ → List Mark
    pub back : ℕ → List Mark
    pub made : (j : ℕ) → marks j ≡ front j ++ back j
    pub handed : (j : ℕ) → j < length parents
        → (plain : List Mark) × WithFloors plain (front j)
        × Floored (whole_of outputs setups j) (near_of near setups j) (input samples j)
        (feeds samples done j) plain
    pub some : (j : ℕ) × (back j ≢ [])

  -- lists of runs were given, and handed down the tree, with floors after each of them
  pub record FedRuns (done : Bool) (before after : ℕ → List Item → Type 0)
      (gave_old gave_new : List (List Run) → Type 0)
      (took_old took_new : (ℕ → List Mark) → Type 0) : Type 0 where
    pub lists : List (List Run)
    pub marks : ℕ → List Mark
    pub gave : (earlier : List (List Run)) → gave_old earlier → gave_new (earlier ++ lists)
    pub took : Took took_old took_new marks
    pub told : (samples : List ℕ) → StandOn outputs setups parents before samples → (j : ℕ)
        → j < length parents
        → ToldOf done (whole_of outputs setups j) (near_of near setups j) (input samples j)
        (input (samples ++ samples_in lists) j)
        (λ more. input ((samples ++ samples_in lists) ++ more) j) (feeds samples lists j) (marks j)
    pub stand : done ≡ true → (samples : List ℕ) → StandOn outputs setups parents before samples
        → StandOn outputs setups parents after (samples ++ samples_in lists)
    pub rested : (samples : List ℕ) → StandOn outputs setups parents before samples → (k : ℕ)
        → 0 < k → WereWhole done lists k
        → RestsAt samples (samples ++ samples_in (take k lists)) marks
    pub broken : done ≡ false → (samples : List ℕ)
        → StandOn outputs setups parents before samples → BrokenIn samples lists marks

  -- where a run was stopped: these lists were handed on whole, and behind their marks some mark was
  -- taken, at which it was stopped; or none was, and it was stopped in a pause. The feed wasn't read
  -- on: where it isn't at its end, only the list is left in which it was stopped at a mark
  pub record StoppedIn (samples : List ℕ) (lists : List (List Run)) (at_end : Bool)
      (marks : ℕ → List Mark) : Type 0 where
    pub done : List (List Run)
    pub left : List (List Run)
    pub paused : Bool
    pub split : lists ≡ done ++ left
    pub last : LeftBy (at_end || paused) left
    pub front : ℕ → List Mark
    pub back : ℕ → List Mark
    pub made : (j : ℕ) → marks j ≡ front j ++ back j
    pub handed : (j : ℕ) → j < length parents
        → (plain : List Mark) × WithFloors plain (front j)
        × Floored (whole_of outputs setups j) (near_of near setups j) (input samples j)
        (feeds samples done j) plain
    pub some : paused ≡ false → (j : ℕ) × (back j ≢ [])
    pub none : paused ≡ true → (j : ℕ) → back j ≡ []

  -- a run of the tree: the lists of runs that the feed gave, the marks that were taken, and what
  -- they are, behind any samples that the instances stood for
  pub record RunsOn (before after : ℕ → List Item → Type 0)
      (gave_old gave_new : List (List Run) → Type 0)
      (took_old took_new : (ℕ → List Mark) → Type 0) (at_end : Bool) (result : RunEnd)
      : Type 0 where
    pub lists : List (List Run)
    pub marks : ℕ → List Mark
    pub gave : (earlier : List (List Run)) → gave_old earlier → gave_new (earlier ++ lists)
    pub took : Took took_old took_new marks
    pub told : (samples : List ℕ) → StandOn outputs setups parents before samples → (j : ℕ)
        → j < length parents
        → ToldOn result at_end (whole_of outputs setups j) (near_of near setups j)
        (input samples j) (input (samples ++ samples_in lists) j)
        (λ more. input ((samples ++ samples_in lists) ++ more) j)
        (feeds samples lists j) (marks j)
    pub rested : (samples : List ℕ) → StandOn outputs setups parents before samples → (k : ℕ)
        → 0 < k → WereWhole (is_ended result) lists k
        → RestsAt samples (samples ++ samples_in (take k lists)) marks
    pub stopped : result ≡ Stopped → (samples : List ℕ)
        → StandOn outputs setups parents before samples
        → StoppedIn samples lists at_end marks
    pub stand : result ≡ Ended → (samples : List ℕ) → StandOn outputs setups parents before samples
        → StandOn outputs setups parents after (samples ++ samples_in lists)
