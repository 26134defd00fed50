-- What was given and what is held of the notes that were pushed.
use Rattle.std.specs.Prelude.{ℕ, ◌≡◌, false, List, [], ◌∷◌, ◌++◌}
use Rattle.la_base.specs.declared.wires.Mark.{Mark}
use Rattle.note_order.specs.Order.{in_order, is_before}
use Rattle.note_order.specs.declared.entry.Entry.{Entry}
use Rattle.annot_merge.specs.Marks.{Begins, Continues, sorted_notes}

-- none of these stands before an entry
abbrev pub NoneBefore : Entry → List Entry → Type 0
NoneBefore entry [] = Unit {0}
NoneBefore entry (other ∷ others) = (is_before other entry ≡ false) × NoneBefore entry others

-- none stands before one in front of it
abbrev pub InOrder : List Entry → Type 0
InOrder [] = Unit {0}
InOrder (entry ∷ entries) = NoneBefore entry entries × InOrder entries

-- a note was put among those that were in order, behind those that it ties with
pub record PutsIn (entry : Entry) (old new : List Entry) : Type 0 where
  pub ordered : InOrder new
  pub same : in_order new ≡ in_order (old ++ entry ∷ [])

-- of the notes among the marks of `count` instances, those were given, and these are held
pub record Merges (count : ℕ) (marks : ℕ → List Mark) (given held : List Entry) : Type 0 where
  -- together they are the notes that were pushed; of one instance and start, in the order in which
  -- they were pushed
  pub whole : in_order (given ++ held) ≡ sorted_notes count marks
  -- those held are in order: by start, then by instance, then as they were pushed
  pub ordered : InOrder held
  -- *merge order*: whatever is pushed yet, those given are a front of the sorted list of all notes,
  -- where floors and ends are true
  pub front : (all : ℕ → List Mark) → Continues count marks all
      → Begins given (sorted_notes count all)
