-- What every order of events of a running tree keeps, and what was printed then.
use Rattle.std.specs.Prelude.{ℕ, ◌≡◌, ◌<◌, Bool, true, false, List, ◌++◌, map, length, Option}
use Rattle.la_base.specs.Runs.{samples_of}
use Rattle.la_base.specs.declared.wires.Out.{Out}
use Rattle.note_order.specs.Order.{listed}
use Rattle.note_order.specs.declared.entry.Entry.{Entry}
use Rattle.decoder_core.specs.Inputs.{Item}
use Rattle.decoder_core.specs.Promises.{GivesNothing, KeepsFront}
use Rattle.decoder_core.specs.Trees.{given}
use Rattle.tree_runs.specs.Listings.{notes_of, shown_from}
use Rattle.tree_runs.specs.Machines.{Definitions, defined}
use Rattle.tree_runs.specs.Passing.{IsForest}
use Rattle.tree_runs.specs.Runs.{nodes_of}
use Rattle.stack_laws.specs.Links.{IsFront, some}
use Rattle.stack_laws.specs.Running.{State, opening}
use Rattle.stack_laws.specs.Feeds.{ends_marks}
use Rattle.stack_laws.specs.Events.{Event, May, MayAll, after, after_all, gathered, gathered_of}
use Rattle.stack_laws.specs.Acts.{Act, MayActAll, acted_all}
use Rattle.stack_laws.specs.Legal.{Legal, MayFollow}
use Rattle.stack_laws.specs.Listings.{AreInputs, listing, shown_alone}

-- a lawful tree: each parent stands before its children, and the definition of each instance gives
-- nothing on nothing and keeps what it gave
pub record IsLawful (parents : List (Option ℕ)) (by : Definitions) : Type 0 where
  pub forest : IsForest parents
  pub nothing : (i : ℕ) → GivesNothing (by.whole i)
  pub prefix : (i : ℕ) → KeepsFront (by.whole i)

-- the driver has gathered each End, and holds no note
pub record IsDone (parents : List (Option ℕ)) (state : State) : Type 0 where
  pub ends : (i : ℕ) → i < length parents → some ends_marks (gathered_of state i) ≡ true
  pub none_held : state.printed ≡ gathered parents state

-- each event keeps a state legal. These definitions were tried too, and each makes some event break
-- a part of it: a merge that lets a note by where an instance below may still give one at the same
-- start; printing that goes on behind a stop; any number told as a floor; a stage that closes with
-- items left; an end that is final for the stages of a run that was stopped, too (`MayFollow`);
-- and a stop that doesn't end the roots
abbrev pub EventKeepsLegal : Type 0
EventKeepsLegal =
    (parents : List (Option ℕ)) (by : Definitions) (slots : ℕ) → IsLawful parents by
    → (event : Event) (state : State) → Legal parents by slots state
    → May parents by slots event state → Legal parents by slots (after parents event state)

-- each list of events, from the opening state on, leads to a legal state
abbrev pub EventsKeepLegal : Type 0
EventsKeepLegal =
    (parents : List (Option ℕ)) (by : Definitions) (slots : ℕ) → IsLawful parents by
    → (events : List Event) → MayAll parents by slots events opening
    → Legal parents by slots (after_all parents events opening)

-- so does each list of acts of a tree whose stages take one feed at a time
abbrev pub ActsKeepLegal : Type 0
ActsKeepLegal =
    (parents : List (Option ℕ)) (by : Definitions) (slots : ℕ) → IsLawful parents by
    → (acts : List Act) → MayActAll parents by slots acts opening
    → Legal parents by slots (acted_all parents acts opening)

-- in a legal state, whatever the inputs go on with, what was printed is a front of the listing
abbrev pub PrintsFrontWhateverComes : Type 0
PrintsFrontWhateverComes =
    (parents : List (Option ℕ)) (by : Definitions) (slots : ℕ) → IsLawful parents by
    → (state : State) → Legal parents by slots state
    → (rest : ℕ → List Item) → ((i : ℕ) → i < length parents → MayFollow state i (rest i))
    → IsFront state.printed (listing parents by.whole (λ i. (state.stages i).consumed ++ rest i))

-- while the feed hasn't ended by itself, what was printed is a front of the listing of all samples
-- that go on from those that were fed
abbrev pub PrintsFront : Type 0
PrintsFront =
    (parents : List (Option ℕ)) (by : Definitions) (slots : ℕ) → IsLawful parents by
    → (state : State) → Legal parents by slots state → state.ended ≡ false
    → (more : List ℕ) (input : ℕ → List Item)
    → AreInputs parents by.whole (samples_of state.fed ++ more) input
    → IsFront state.printed (listing parents by.whole input)

-- once it has, what was printed is a front of the listing of what was fed
abbrev pub PrintsFrontAtEnd : Type 0
PrintsFrontAtEnd =
    (parents : List (Option ℕ)) (by : Definitions) (slots : ℕ) → IsLawful parents by
    → (state : State) → Legal parents by slots state → state.ended ≡ true
    → (input : ℕ → List Item) → AreInputs parents by.whole (samples_of state.fed) input
    → IsFront state.printed (listing parents by.whole input)

-- in a state that is done, what was printed is the listing of what was fed
abbrev pub PrintsAll : Type 0
PrintsAll =
    (parents : List (Option ℕ)) (by : Definitions) (slots : ℕ) → IsLawful parents by
    → (state : State) → Legal parents by slots state → IsDone parents state
    → (input : ℕ → List Item) → AreInputs parents by.whole (samples_of state.fed) input
    → state.printed ≡ listing parents by.whole input

-- what was printed of the instances that are shown, by the listing of a tree of machines
module _ {S : Type 0} (outputs : S → List Item → List Out) (near : S → List Item → ℕ → ℕ)
    (setups : List S) (parents : List (Option ℕ)) where
  -- the notes of the instances that are shown, on samples, in the order of a listing
  abbrev pub listing_of : (ℕ → Bool) → List ℕ → List Entry
  listing_of shown samples =
      listed (shown_from shown 0 (map notes_of (given outputs samples (nodes_of setups parents))))

  -- a front of the listing of all samples that go on from those that were fed; of those that were
  -- fed alone, once the feed has ended by itself; and all of it, once all was gathered and no note
  -- is held
  pub record PrintsListing (shown : ℕ → Bool) (state : State) : Type 0 where
    pub going : state.ended ≡ false → (more : List ℕ)
        → IsFront (shown_alone shown state.printed)
        (listing_of shown (samples_of state.fed ++ more))
    pub ended : state.ended ≡ true
        → IsFront (shown_alone shown state.printed) (listing_of shown (samples_of state.fed))
    pub done : IsDone parents state
        → shown_alone shown state.printed ≡ listing_of shown (samples_of state.fed)

  -- so does every legal state of such a tree
  abbrev pub LegalPrintsListing : Type 0
  LegalPrintsListing =
      (slots : ℕ) (shown : ℕ → Bool) (state : State)
      → Legal parents (defined outputs near setups) slots state → PrintsListing shown state

  -- and so the state behind every list of its events
  abbrev pub EventsPrintListing : Type 0
  EventsPrintListing =
      (slots : ℕ) (shown : ℕ → Bool) (events : List Event)
      → MayAll parents (defined outputs near setups) slots events opening
      → PrintsListing shown (after_all parents events opening)
