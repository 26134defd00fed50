-- What is written of the notes that may be given.
use Rattle.std.specs.Prelude.{ℕ, ◌≡◌, ◌≤◌, ◌++◌, List, Option, Result, Ok, Err}
use Rattle.std.specs.Io.KnownBytes.{Appends}
use Rattle.la_base.specs.declared.wires.Mark.{Mark}
use Rattle.la_io.specs.Causes.{Rose}
use Rattle.note_order.specs.declared.entry.Entry.{Entry}
use Rattle.stack_words.specs.Accepting.{Accepted}
use Rattle.annot_merge.specs.Held.{Stands, count_of, held_in}
use Rattle.annot_merge.specs.declared.merge.Merge.{Merge}
use Rattle.note_lister.specs.Lines.{shown_entries, shown_lines}
use Rattle.note_lister.specs.Prompt.{NoneAllowed}
use Rattle.note_lister.specs.Watching.{Sees, ShowsFront}
use Rattle.note_lister.specs.declared.stop.ListStop.{ListStop}
use Rattle.note_lister.specs.declared.stop.ListStop.TheVariants.{Write, NoMemory}

-- how often the sink had failed, and has, where the listing is stopped for this cause
abbrev pub StopCause : ListStop → ℕ → ℕ → Type 0
StopCause Write before now = (before ≤ now) × Rose before now
StopCause NoMemory before now = now ≡ before

-- and where it goes on
abbrev pub ListCause : ℕ → ℕ → Result (Unit {0}) ListStop → Type 0
ListCause before now (Ok done) = now ≡ before
ListCause before now (Err why) = StopCause why before now

-- these further notes were given, their lines written, and those that are shown were seen
pub record ListsAll (accepted : Accepted) (new : Merge) (saw_old saw_new : List Entry → Type 0)
    (written_old written_new : Option (List ℕ)) (marks : ℕ → List Mark)
    (given : List Entry) : Type 0 where
  pub more : List Entry
  pub stands : Stands new marks (given ++ more)
  pub lines : Appends written_old written_new (shown_lines accepted more)
  pub sees : Sees saw_old saw_new (shown_entries accepted more)

-- these were given, a front of their lines is written, and the first of them were seen
pub record ListsFront (accepted : Accepted) (new : Merge) (saw_old saw_new : List Entry → Type 0)
    (written_old written_new : Option (List ℕ)) (marks : ℕ → List Mark)
    (given : List Entry) : Type 0 where
  pub more : List Entry
  pub stands : Stands new marks (given ++ more)
  pub front : ShowsFront accepted saw_old saw_new written_old written_new more

-- all that may be given was given, and their lines are written; or it was stopped
abbrev pub ListsReady : Accepted → Merge → (List Entry → Type 0) → (List Entry → Type 0)
    → Option (List ℕ) → Option (List ℕ) → (ℕ → List Mark) → List Entry
    → Result (Unit {0}) ListStop → Type 0
ListsReady accepted new saw_old saw_new written_old written_new marks given (Ok done) =
    ListsAll accepted new saw_old saw_new written_old written_new marks given
    × NoneAllowed (count_of new) marks (held_in new)
ListsReady accepted new saw_old saw_new written_old written_new marks given (Err why) =
    ListsFront accepted new saw_old saw_new written_old written_new marks given
