-- What holds of a tree whose links were settled, and of one that goes on from earlier samples.
use Rattle.std.specs.Prelude.{ℕ, ◌≡◌, ◌+◌, ◌<◌, ◌≤◌, Bool, true, ◌||◌, List, [], ◌++◌, map}
use Rattle.std.specs.Prelude.{length, slice_get, Option, Some, None}
use Rattle.la_base.specs.Runs.{samples_of}
use Rattle.la_base.specs.declared.samples.Run.{Run}
use Rattle.la_base.specs.declared.wires.Feed.TheVariants.{Run as RunFeed}
use Rattle.la_base.specs.declared.wires.Mark.{Mark}
use Rattle.la_base.specs.declared.wires.Out.{Out}
use Rattle.tree_io.specs.Feeds.{together}
use Rattle.decoder_core.specs.Inputs.{Item}
use Rattle.decoder_core.specs.declared.end.RunEnd.{RunEnd}
use Rattle.decoder_core.specs.declared.end.RunEnd.TheVariants.{Ended}
use Rattle.tree_runs.specs.Machines.{Definitions, defined}
use Rattle.tree_runs.specs.Runs.{ToldOn, input_on}
use Rattle.stack_laws.specs.Links.{IsFront, Link, some}
use Rattle.stack_laws.specs.Running.{State, is_over}
use Rattle.stack_laws.specs.Feeds.{ends_feed, ends_marks, feed_end, items_in}
use Rattle.stack_laws.specs.Legal.{Fits, Own}
use Rattle.stack_laws.specs.Keeping.{Keeps}
use Rattle.stack_laws.specs.Views.{Ends, children_of, state_of}
use Rattle.stack_laws.specs.Listings.{AreInputs}
use Rattle.stack_laws.specs.Rests.{behind}
use Rattle.stack_laws.specs.Laws.{IsLawful}

-- a link whose two ends were tied: what was received is a front of what was sent, and at most
-- `slots` lie between
pub record IsTied {T : Type 0} (slots : ℕ) (link : Link T) : Type 0 where
  pub receives : IsFront link.received link.sent
  pub room : length link.sent ≤ length link.received + slots

-- what the driver knows by itself: what it has made for each root is what is due to it, and it has
-- sent a front of that; outside of the tree nothing was made
pub record DriverOwn (parents : List (Option ℕ)) (state : State) : Type 0 where
  pub made : (i : ℕ) → slice_get parents i ≡ Some None
      → (state.stages i).input.made ≡ map RunFeed state.fed ++ feed_end (is_over state)
  pub sends : (i : ℕ) → slice_get parents i ≡ Some None
      → IsFront (state.stages i).input.sent (state.stages i).input.made
  pub none : (i : ℕ) → slice_get parents i ≡ None
      → ((state.stages i).input.made ≡ []) × ((state.stages i).input.sent ≡ [])

-- where the two ends of each link were tied, what each stage and the driver know by themselves is
-- that the lists fit together
abbrev pub TiedEndsFit : Type 0
TiedEndsFit =
    (parents : List (Option ℕ)) (by : Definitions) (slots : ℕ) (state : State)
    → ((i : ℕ) → Own parents by i state) → DriverOwn parents state
    → ((i : ℕ) → IsTied slots (state.stages i).input)
    → ((i : ℕ) → IsTied slots (state.stages i).marks)
    → Fits parents by slots state

-- the ends of a tree's links, once they were tied: each stage has what its decoder gives, and
-- something for each child; the driver has made for each root what was fed
pub record AreSettled (parents : List (Option ℕ)) (by : Definitions) (slots : ℕ) (ends : Ends)
    (fed : List Run) (over : Bool) (state : State) : Type 0 where
  pub keeps : (i : ℕ) → Keeps (by.whole i) (by.near i) (ends.views i)
  pub each : (i : ℕ) → length (ends.views i).children ≡ length (children_of parents i)
  pub roots : (i : ℕ) → slice_get parents i ≡ Some None
      → ((ends.roots i).made ≡ map RunFeed fed ++ feed_end over)
      × IsFront (ends.roots i).sent (ends.roots i).made
  pub inputs : (i : ℕ) → IsTied slots (state.stages i).input
  pub marks : (i : ℕ) → IsTied slots (state.stages i).marks

-- what they hold is one state, whose lists fit together
abbrev pub SettledEndsFit : Type 0
SettledEndsFit =
    (parents : List (Option ℕ)) (by : Definitions) (slots : ℕ) (ends : Ends) (fed : List Run)
    (ended stopped : Bool)
    → AreSettled parents by slots ends fed (ended || stopped)
    (state_of parents ends fed ended stopped)
    → Fits parents by slots (state_of parents ends fed ended stopped)

-- a stage has received End, and has consumed all that came before it
pub record IsThrough (state : State) (i : ℕ) : Type 0 where
  pub received : some ends_feed (state.stages i).input.received ≡ true
  pub consumed : (state.stages i).consumed ≡ items_in (state.stages i).input.received

-- End was sent only where it was received: by a stage that has received it and has consumed all
-- that came, behind all that it made for that link; by the driver, once the feed is over, behind
-- all that was fed
pub record SendsEndLast (parents : List (Option ℕ)) (state : State) : Type 0 where
  pub child : (i parent : ℕ) → slice_get parents i ≡ Some (Some parent)
      → some ends_feed (state.stages i).input.sent ≡ true
      → IsThrough state parent × ((state.stages i).input.sent ≡ (state.stages i).input.made)
  pub marks : (i : ℕ) → some ends_marks (state.stages i).marks.sent ≡ true
      → IsThrough state i × ((state.stages i).marks.sent ≡ (state.stages i).marks.made)
  pub root : (i : ℕ) → slice_get parents i ≡ Some None
      → some ends_feed (state.stages i).input.sent ≡ true
      → (is_over state ≡ true) × ((state.stages i).input.sent ≡ (state.stages i).input.made)
  pub over : (i : ℕ) → some ends_feed (state.stages i).input.received ≡ true
      → is_over state ≡ true

-- so it is where the lists fit together
abbrev pub EndIsSentLast : Type 0
EndIsSentLast =
    (parents : List (Option ℕ)) (by : Definitions) (slots : ℕ) → IsLawful parents by
    → (state : State) → Fits parents by slots state → SendsEndLast parents state

-- nothing that was made for a link is kept, and nothing lies on it
pub record IsEmptied {T : Type 0} (link : Link T) : Type 0 where
  pub received : link.received ≡ link.made
  pub sent : link.sent ≡ link.made

-- these are marks of a run in which an instance read on from one input to another, by feeds into
-- which what came can be cut; with more samples its input is `later`
abbrev pub TellsRun : RunEnd → Bool → (List Item → List Out) → (List Item → ℕ) → List Item
    → List Item → (List ℕ → List Item) → List Mark → Type 0
TellsRun result at_end whole near was now later marks =
    (feeds : List (List Item)) × (now ≡ was ++ together feeds)
    × ToldOn result at_end whole near was now later feeds marks

-- a stage that has closed has received all that was made for it, and has consumed its input on
-- what was fed; of a stage of which End was gathered all was gathered; and any marks of a stage,
-- from the first one on, are those of a run: with End among them, of one that has ended, else of
-- one that was stopped
pub record Tells (by : Definitions) (was now : ℕ → List Item) (later : List ℕ → ℕ → List Item)
    (state : State) (j : ℕ) : Type 0 where
  pub comes : (state.stages j).closed ≡ true
      → IsEmptied (state.stages j).input × (now j ≡ was j ++ (state.stages j).consumed)
  pub gathered : some ends_marks (state.stages j).marks.received ≡ true
      → ((state.stages j).closed ≡ true) × IsEmptied (state.stages j).marks
  pub told : (result : RunEnd) (at_end : Bool) (marks : List Mark)
      → IsFront marks (state.stages j).marks.made
      → (some ends_marks marks ≡ true → at_end ≡ true)
      → (result ≡ Ended → some ends_marks marks ≡ true)
      → TellsRun result at_end (by.whole j) (by.near j) (was j) (now j) (λ more. later more j) marks

-- so it is where the lists fit together
abbrev pub FittingTells : Type 0
FittingTells =
    (parents : List (Option ℕ)) (by : Definitions) (slots : ℕ) → IsLawful parents by
    → (state : State) → Fits parents by slots state
    → (input : ℕ → List Item) → AreInputs parents by.whole (samples_of state.fed) input
    → (later : List ℕ → ℕ → List Item)
    → ((more : List ℕ) → AreInputs parents by.whole (samples_of state.fed ++ more) (later more))
    → (j : ℕ) → j < length parents → Tells by (λ _. []) input later state j

-- and where the tree had read earlier samples, and gives what is behind its outputs on these
abbrev pub FittingTellsTheRest : Type 0
FittingTellsTheRest =
    (parents : List (Option ℕ)) (by : Definitions) (slots : ℕ) → IsLawful parents by
    → (earlier : List ℕ) (was now : ℕ → List Item) → AreInputs parents by.whole earlier was
    → (state : State) → Fits parents (behind by was) slots state
    → AreInputs parents by.whole (earlier ++ samples_of state.fed) now
    → (later : List ℕ → ℕ → List Item)
    → ((more : List ℕ)
    → AreInputs parents by.whole ((earlier ++ samples_of state.fed) ++ more) (later more))
    → (j : ℕ) → j < length parents → Tells by was now later state j

-- so it is of a tree of machines that stood for their inputs on earlier samples
abbrev pub MachinesTell : {S : Type 0} → (S → List Item → List Out) → (S → List Item → ℕ → ℕ)
    → List S → List (Option ℕ) → Type 0
MachinesTell outputs near setups parents =
    (slots : ℕ) (samples : List ℕ) (state : State)
    → Fits parents (behind (defined outputs near setups) (input_on outputs setups parents samples))
    slots state
    → (j : ℕ) → j < length parents
    → Tells (defined outputs near setups) (input_on outputs setups parents samples)
    (input_on outputs setups parents (samples ++ samples_of state.fed))
    (λ more. input_on outputs setups parents ((samples ++ samples_of state.fed) ++ more)) state j

-- what each instance of a tree gives behind its outputs on an earlier input makes a tree
abbrev pub RestsAreATree : Type 0
RestsAreATree =
    (parents : List (Option ℕ)) (by : Definitions) (was : ℕ → List Item)
    → IsLawful parents by → IsLawful parents (behind by was)

-- and its inputs are what comes behind those earlier ones
abbrev pub RestsReadTheRest : Type 0
RestsReadTheRest =
    (parents : List (Option ℕ)) (by : Definitions) (earlier more : List ℕ)
    (was now : ℕ → List Item) → IsLawful parents by
    → AreInputs parents by.whole earlier was → AreInputs parents by.whole (earlier ++ more) now
    → (rest : ℕ → List Item) × AreInputs parents (behind by was).whole more rest
    × ((j : ℕ) → j < length parents → now j ≡ was j ++ rest j)
