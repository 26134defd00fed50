-- What the handing on of feeds down a tree of decoders does.
use Rattle.std.specs.Prelude.{ℕ, suc, ◌≡◌, ◌≢◌, ◌<◌, nat_eq, nat_lt, Bool, true, false}
use Rattle.std.specs.Prelude.{if◌then◌else◌, List, [], ◌∷◌, ◌++◌, slice_get, Option, Some, None}
use Rattle.la_base.specs.declared.wires.Mark.{Mark}
use Rattle.la_base.specs.declared.wires.Mark.TheVariants.{Note as NoteMark, Piece as PieceMark}
use Rattle.la_base.specs.declared.wires.Mark.TheVariants.{Floor as FloorMark, End as EndMark}
use Rattle.la_base.specs.declared.wires.Out.{Out}
use Rattle.decoder_core.specs.Inputs.{Item}
use Rattle.decoder_core.specs.Trees.{packets_of}
use Rattle.decoder_core.specs.Marks.{shown, FloorsHold}
use Rattle.tree_io.specs.Feeds.{marks_of}
use Rattle.tree_runs.specs.Floors.{Handed, alone}
use Rattle.tree_runs.specs.Machines.{Definitions}
use Rattle.tree_runs.specs.Reaching.{Reaches}

-- no End is among marks
abbrev pub NoEnd : List Mark → Type 0
NoEnd [] = Unit {0}
NoEnd (NoteMark note ∷ marks) = NoEnd marks
NoEnd (PieceMark piece ∷ marks) = NoEnd marks
NoEnd (FloorMark start ∷ marks) = NoEnd marks
NoEnd (EndMark ∷ marks) = ⊥

-- an instance, whose outputs by its definition are `whole`, was given these items, which add these
-- outputs; these marks of it were taken
pub record Passes (done : Bool) (whole : List Item → List Out) (before after : List Item → Type 0)
    (grown : List Item) (added : List Out) (marks : List Mark) : Type 0 where
  pub consumes : done ≡ true → (input : List Item) → before input → after (input ++ grown)
  pub gives : (input : List Item) → before input → whole (input ++ grown) ≡ whole input ++ added
  pub shows : Reaches done (shown marks) (marks_of added)
  pub no_end : NoEnd marks
  pub floors : (input more : List Item) (rest : List Out) → before input
      → whole ((input ++ grown) ++ more) ≡ whole input ++ (added ++ rest)
      → FloorsHold marks (marks_of (added ++ rest))

-- what each instance was given, and in which feeds, the outputs that this adds, and the marks that
-- were taken of it
pub record Change : Type 0 where
  pub grown : ℕ → List Item
  pub feeds : ℕ → List (List Item)
  pub added : ℕ → List Out
  pub marks : ℕ → List Mark

-- one change and then another
abbrev pub joined : Change → Change → Change
joined one other = record {
  grown = λ j. one.grown j ++ other.grown j;
  feeds = λ j. one.feeds j ++ other.feeds j;
  added = λ j. one.added j ++ other.added j;
  marks = λ j. one.marks j ++ other.marks j;
}

-- a list at one place, and nothing elsewhere
abbrev pub only : {X : Type 0} → ℕ → List X → ℕ → List X
only i xs j = if nat_eq j i then xs else []

-- a list at the places before one, and nothing behind them
abbrev pub up_to : {X : Type 0} → ℕ → List X → ℕ → List X
up_to place xs j = if nat_lt j place then xs else []

-- these marks were taken
abbrev pub Took : ((ℕ → List Mark) → Type 0) → ((ℕ → List Mark) → Type 0) → (ℕ → List Mark) → Type 0
Took old new marks =
    (before after : ℕ → List Mark) → old before → ((j : ℕ) → after j ≡ before j ++ marks j)
    → new after

-- marks of an instance were taken: all of these, or a front of them where it was stopped
pub record TookFront (done : Bool) (old new : (ℕ → List Mark) → Type 0) (instance : ℕ)
    (marks : List Mark) : Type 0 where
  pub taken : List Mark
  pub reaches : Reaches done taken marks
  pub some : done ≡ false → taken ≢ []
  pub took : Took old new (only instance taken)

-- two places are the same; none is the outside of the tree
abbrev pub same_place : Option ℕ → Option ℕ → Bool
same_place None None = true
same_place (Some i) (Some j) = nat_eq i j
same_place one other = false

-- the first instance that may stand on a place
abbrev pub first_on : Option ℕ → ℕ
first_on None = 0
first_on (Some i) = suc i

-- what comes to an instance from its parent
abbrev pub from_parent : (ℕ → List Out) → Option ℕ → List Item
from_parent added None = []
from_parent added (Some parent) = packets_of (added parent)

-- what comes to an instance that stands on `above`: these items; to any other: the packets of its
-- parent
abbrev pub comes : Option ℕ → List Item → (ℕ → List Out) → Option ℕ → List Item
comes above items added parent =
    if same_place parent above then items else from_parent added parent

-- the same as feeds: of a parent each packet alone
abbrev pub comes_in : Option ℕ → List (List Item) → (ℕ → List Out) → Option ℕ → List (List Item)
comes_in above feeds added parent =
    if same_place parent above then feeds else alone (from_parent added parent)

-- those that stand on `above` were given these items, in these feeds, and all others what their
-- parents put out
pub record Down (done : Bool) (above : Option ℕ) (items : ℕ → List Item)
    (feeds : ℕ → List (List Item)) (parents : List (Option ℕ)) (c : Change) : Type 0 where
  pub quiet : (j : ℕ) → j < first_on above → (c.grown j ≡ []) × (c.added j ≡ [])
  pub links : (j : ℕ) (parent : Option ℕ) → slice_get parents j ≡ Some parent
      → Reaches done (c.grown j) (comes above (items j) c.added parent)
  pub fed : (j : ℕ) (parent : Option ℕ) → slice_get parents j ≡ Some parent
      → Reaches done (c.feeds j) (comes_in above (feeds j) c.added parent)

-- instance i was given these items, and all others what their parents put out
pub record Into (done : Bool) (i : ℕ) (items : List Item) (parents : List (Option ℕ)) (c : Change)
    : Type 0 where
  pub quiet : (j : ℕ) → j < i → (c.grown j ≡ []) × (c.added j ≡ [])
  pub here : Reaches done (c.grown i) items
  pub links : (j : ℕ) (parent : Option ℕ) → slice_get parents j ≡ Some parent → j ≢ i
      → Reaches done (c.grown j) (from_parent c.added parent)
  pub fed : (j : ℕ) (parent : Option ℕ) → slice_get parents j ≡ Some parent → j ≢ i
      → Reaches done (c.feeds j) (alone (from_parent c.added parent))

-- where it was stopped, some mark was taken: the one at which it was
abbrev pub SomeMark : Bool → Change → Type 0
SomeMark done c = done ≡ false → (j : ℕ) × (c.marks j ≢ [])

abbrev pub Unmarked : ℕ → Change → Type 0
Unmarked n c = (j : ℕ) → j < n → c.marks j ≡ []

-- each parent stands before its children
abbrev pub IsForest : List (Option ℕ) → Type 0
IsForest parents = (j parent : ℕ) → slice_get parents j ≡ Some (Some parent) → parent < j

module _ (done : Bool) (by : Definitions) (before after : ℕ → List Item → Type 0)
    (parents : List (Option ℕ)) (took_old took_new : (ℕ → List Mark) → Type 0) where
  abbrev pub PassesAt : Change → ℕ → Type 0
  PassesAt c j =
      Passes done (by.whole j) (before j) (after j) (c.grown j) (c.added j) (c.marks j)

  abbrev pub HandedAt : Change → ℕ → Type 0
  HandedAt c j =
      Handed done (by.whole j) (by.near j) (before j) (c.grown j) (c.feeds j) (c.marks j)

  -- those that stand on `above` were given these items, in these feeds
  pub record Hands (above : Option ℕ) (items : ℕ → List Item) (feeds : ℕ → List (List Item))
      : Type 0 where
    pub change : Change
    pub each : (j : ℕ) → PassesAt change j
    pub handed : (j : ℕ) → HandedAt change j
    pub down : Down done above items feeds parents change
    pub unmarked : Unmarked (first_on above) change
    pub some : SomeMark done change
    pub took : Took took_old took_new change.marks

  -- instance i was given these items, as one feed
  pub record Feeds (i : ℕ) (items : List Item) : Type 0 where
    pub change : Change
    pub each : (j : ℕ) → PassesAt change j
    pub handed : (j : ℕ) → HandedAt change j
    pub into : Into done i items parents change
    pub one : Reaches done (change.feeds i) (items ∷ [])
    pub unmarked : Unmarked i change
    pub some : SomeMark done change
    pub took : Took took_old took_new change.marks

  -- instance i was given these items, without a floor behind them
  pub record Consumes (i : ℕ) (items : List Item) : Type 0 where
    pub change : Change
    pub each : (j : ℕ) → PassesAt change j
    pub handed : (j : ℕ) → j ≢ i → HandedAt change j
    pub own : Reaches done (change.marks i) (marks_of (change.added i))
    pub into : Into done i items parents change
    pub unmarked : Unmarked i change
    pub some : SomeMark done change
    pub took : Took took_old took_new change.marks

  -- these outputs of instance i were given: notes and pieces as marks, packets to those that stand
  -- on it
  pub record Gives (i : ℕ) (outs : List Out) : Type 0 where
    pub change : Change
    pub others : (j : ℕ) → j ≢ i → PassesAt change j
    pub handed : (j : ℕ) → j ≢ i → HandedAt change j
    pub down : Down done (Some i) (λ _. packets_of outs) (λ _. alone (packets_of outs)) parents
        change
    pub own : Reaches done (change.marks i) (marks_of outs)
    pub stays : done ≡ true → (input : List Item) → before i input → after i input
    pub unmarked : Unmarked i change
    pub some : SomeMark done change
    pub took : Took took_old took_new change.marks
