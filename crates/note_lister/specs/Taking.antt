-- What a lister wrote of the marks that it took.
use Rattle.std.specs.Prelude.{ℕ, ◌≡◌, ◌≢◌, ◌≤◌, Bool, true, false, List, [], Option, Some, None}
use Rattle.std.specs.Prelude.{Result, IsErr, IsSome}
use Rattle.std.specs.Io.KnownBytes.{Appends}
use Rattle.la_base.specs.declared.wires.Mark.{Mark}
use Rattle.la_io.specs.Causes.{AppendsFront, Rose}
use Rattle.tree_io.specs.declared.feeds.Stopped.{Stopped}
use Rattle.note_order.specs.declared.entry.Entry.{Entry}
use Rattle.stack_words.specs.Accepting.{Accepted}
use Rattle.stack_words.specs.Stacks.{stack_meaning}
use Rattle.stack_words.specs.declared.stack.Stack.{Stack}
use Rattle.std.proofs.Common.{Bor, MutBor}
use Rattle.std.specs.declared.snapshot.Snapshot.{Snapshot}
use Rattle.annot_merge.specs.Held.{Stands, count_of, held_in}
use Rattle.annot_merge.specs.Marks.{Begins}
use Rattle.annot_merge.specs.declared.merge.Merge.{Merge}
use Rattle.note_lister.specs.Data.{bytes_in}
use Rattle.note_lister.specs.Lines.{shown_entries, shown_lines}
use Rattle.note_lister.specs.Prompt.{NoneAllowed, Prompts}
use Rattle.note_lister.specs.Watching.{SawFront}
use Rattle.note_lister.specs.declared.lister.Lister.{Lister}
use Rattle.note_lister.specs.declared.stop.ListStop.{ListStop}
use Rattle.note_lister.specs.declared.stop.ListStop.TheVariants.{Write, NoMemory}

-- the lines of the notes that were given are written, those of them that are shown were seen, and
-- none that is held may be given
pub record WritesLines (accepted : Accepted) (merge : Merge) (saw : List Entry → Type 0)
    (old new : Option (List ℕ)) (marks : ℕ → List Mark) : Type 0 where
  pub given : List Entry
  pub stands : Stands merge marks given
  pub prompt : NoneAllowed (count_of merge) marks (held_in merge)
  pub lines : Appends old new (shown_lines accepted given)
  pub seen : saw (shown_entries accepted given)

-- all was written at once; or, where binary data is wanted, its bytes were, and no note was seen
abbrev pub WritesAll : Accepted → Option (ℕ × ℕ) → Merge → (List Entry → Type 0)
    → Option (List ℕ) → Option (List ℕ) → (ℕ → List Mark) → Type 0
WritesAll accepted None merge saw old new marks = WritesLines accepted merge saw old new marks
WritesAll accepted (Some wanted) merge saw old new marks =
    Appends old new (bytes_in wanted.1 (marks wanted.0)) × saw []

-- the taking was stopped at the last of these marks, or after it: a front of what was to be written
-- at once of them is written, and the first of the notes of its lines were seen
pub record WritesFrontOf (accepted : Accepted) (count : ℕ) (saw : List Entry → Type 0)
    (old new : Option (List ℕ)) (marks : ℕ → List Mark) : Type 0 where
  pub out : List ℕ
  pub notes : List Entry
  pub prompts : Prompts accepted accepted.binary count marks out notes
  pub front : AppendsFront old new out
  pub seen : SawFront accepted saw old new notes

-- it was stopped at the last of these first marks
pub record WritesFront (accepted : Accepted) (count : ℕ) (saw : List Entry → Type 0)
    (old new : Option (List ℕ)) (marks : ℕ → List Mark) : Type 0 where
  pub first : ℕ → List Mark
  pub begins : (j : ℕ) → Begins (first j) (marks j)
  pub out : List ℕ
  pub notes : List Entry
  pub prompts : Prompts accepted accepted.binary count first out notes
  pub front : AppendsFront old new out
  pub seen : SawFront accepted saw old new notes

-- what was written and seen, by the cause for which nothing more is written, if there is one; and
-- how often the sink failed
abbrev pub Writes : Accepted → Merge → Option ListStop → ℕ → (List Entry → Type 0)
    → Option (List ℕ) → Option (List ℕ) → ℕ → ℕ → (ℕ → List Mark) → Type 0
Writes accepted merge None stops saw old new failed_old failed_new marks =
    (stops ≡ 0) × (failed_new ≡ failed_old)
    × WritesAll accepted accepted.binary merge saw old new marks
Writes accepted merge (Some Write) stops saw old new failed_old failed_new marks =
    (failed_old ≤ failed_new) × Rose failed_old failed_new
    × WritesFront accepted (count_of merge) saw old new marks
Writes accepted merge (Some NoMemory) stops saw old new failed_old failed_new marks =
    (stops ≢ 0) × (failed_new ≡ failed_old)
    × WritesFront accepted (count_of merge) saw old new marks

-- how many instances a lister takes marks of
abbrev pub instances_of : {K W : Type 0} → Lister K W → ℕ
instances_of lister = count_of lister.merge

-- the sink behind it, and what it was when it was lent
abbrev pub sink_of : {K W : Type 0} → Lister K W → K
sink_of lister = lister.sink.now

abbrev pub first_sink : {K W : Type 0} → Lister K W → K
first_sink lister = lister.first.value.now

-- what looks on
abbrev pub watch_of : {K W : Type 0} → Lister K W → W
watch_of lister = lister.watch

-- its stack, the reference to its sink, and what that was when it was lent
abbrev pub stack_of : {K W : Type 0} → Lister K W → Stack
stack_of lister = lister.stack.now

abbrev pub sink_ref : {K W : Type 0} → Lister K W → MutBor K
sink_ref lister = lister.sink

abbrev pub first_of : {K W : Type 0} → Lister K W → MutBor K
first_of lister = lister.first.value

-- why it was stopped, if it was, and how often
abbrev pub cause_of : {K W : Type 0} → Lister K W → Option ListStop
cause_of lister = lister.cause

abbrev pub stops_of : {K W : Type 0} → Lister K W → ℕ
stops_of lister = lister.stops

-- the notes that it holds
abbrev pub held_by : {K W : Type 0} → Lister K W → List Entry
held_by lister = held_in lister.merge

-- each mark goes to its merge
abbrev pub merges_in : {K W : Type 0} → Lister K W → Bool
merges_in lister = lister.merges

-- a lister took these marks since it was made: it still has the sink that it was lent, and wrote
-- what it had to; what looks on saw the notes whose lines are written
pub record Took {K W : Type 0} (written : K → Option (List ℕ)) (faults : K → ℕ)
    (goes_on : K → K → Type 0) (saw : W → List Entry → Type 0) (lister : Lister K W)
    (marks : ℕ → List Mark) : Type 0 where
  pub same_sink : lister.sink.ghost_name ≡ lister.first.value.ghost_name
  pub goes_on_is : goes_on (first_sink lister) (sink_of lister)
  pub writes : Writes (stack_meaning lister.stack.now) lister.merge lister.cause lister.stops
      (saw lister.watch) (written (first_sink lister)) (written (sink_of lister))
      (faults (first_sink lister)) (faults (sink_of lister)) marks
  -- where it wasn't stopped yet, all was written at once
  pub at_pause : lister.stops ≡ 0 → WritesAll (stack_meaning lister.stack.now)
      (stack_meaning lister.stack.now).binary lister.merge (saw lister.watch)
      (written (first_sink lister)) (written (sink_of lister)) marks
  -- where it was stopped once, that was at the last of these marks, or in a pause after it
  pub at_stop : lister.stops ≡ 1 → WritesFrontOf (stack_meaning lister.stack.now)
      (count_of lister.merge) (saw lister.watch) (written (first_sink lister))
      (written (sink_of lister)) marks
  -- where binary data is wanted, no note is held
  pub holds_none : IsSome (stack_meaning lister.stack.now).binary → held_in lister.merge ≡ []

-- its stack, what it was lent, and what the one that looks on was made over
abbrev pub origin_of : {K W O : Type 0} → (W → O) → Lister K W
    → Bor Stack × Snapshot (MutBor K) × O
origin_of origin lister = (lister.stack, lister.first, origin lister.watch)

-- none of these has changed
abbrev pub SameOrigin : {K W O : Type 0} → (W → O) → Lister K W → Lister K W → Type 0
SameOrigin origin old new = origin_of origin new ≡ origin_of origin old

-- with true: it wasn't stopped yet; with false: it was stopped once, and its cause is there
abbrev pub Goes : {K W : Type 0} → Bool → Lister K W → Type 0
Goes true lister = stops_of lister ≡ 0
Goes false lister = (stops_of lister ≡ 1) × IsSome (cause_of lister)

-- a call is stopped for this cause, by how often the sink had failed before it and has now
abbrev pub StopsFor : Option ListStop → ℕ → ℕ → Type 0
StopsFor None before now = ⊥
StopsFor (Some Write) before now = Rose before now
StopsFor (Some NoMemory) before now = now ≡ before

-- where there is a cause, a call is stopped for it: nothing is written or seen, and the cause stays
pub record StaysStopped {K W : Type 0} (old new : Lister K W)
    (result : Result (Unit {0}) Stopped) : Type 0 where
  pub stopped : IsErr result
  pub sink : sink_ref new ≡ sink_ref old
  pub watch : watch_of new ≡ watch_of old
  pub cause : cause_of new ≡ cause_of old
  pub held : held_by new ≡ held_by old
