-- What is pushed to a merge, as whole lists of marks.
use Rattle.std.specs.Prelude.{ℕ, zero, suc, ◌+◌, ◌≡◌, ◌≢◌, ◌≤◌, ◌<◌, List, [], ◌∷◌, ◌++◌}
use Rattle.la_base.specs.declared.wires.Mark.{Mark}
use Rattle.la_base.specs.declared.wires.Mark.TheVariants.{Note as NoteMark, Piece as PieceMark}
use Rattle.la_base.specs.declared.wires.Mark.TheVariants.{Floor as FloorMark, End as EndMark}
use Rattle.la_base.specs.declared.wires.Note.{Note}
use Rattle.note_order.specs.Order.{listed}
use Rattle.note_order.specs.declared.entry.Entry.{Entry}

-- the notes among marks
abbrev pub notes_in : List Mark → List Note
notes_in [] = []
notes_in (NoteMark note ∷ marks) = note ∷ notes_in marks
notes_in (PieceMark piece ∷ marks) = notes_in marks
notes_in (FloorMark start ∷ marks) = notes_in marks
notes_in (EndMark ∷ marks) = notes_in marks

-- the notes among the marks of so many instances, the first of which has this number
abbrev pub notes_from : (ℕ → List Mark) → ℕ → ℕ → List (List Note)
notes_from marks first zero = []
notes_from marks first (suc count) = notes_in (marks first) ∷ notes_from marks (first + 1) count

-- the sorted list of all notes among the marks of `count` instances: by start, then by instance,
-- then as they were pushed
abbrev pub sorted_notes : ℕ → (ℕ → List Mark) → List Entry
sorted_notes count marks = listed (notes_from marks 0 count)

-- a mark is pushed to an instance, and none to any other
pub record Pushes (old new : ℕ → List Mark) (instance : ℕ) (mark : Mark) : Type 0 where
  pub here : new instance ≡ old instance ++ mark ∷ []
  pub others : (other : ℕ) → other ≢ instance → new other ≡ old other

-- each note among marks starts here or later
abbrev pub StartFrom : ℕ → List Mark → Type 0
StartFrom floor [] = Unit {0}
StartFrom floor (NoteMark note ∷ marks) = (floor ≤ note.start) × StartFrom floor marks
StartFrom floor (PieceMark piece ∷ marks) = StartFrom floor marks
StartFrom floor (FloorMark start ∷ marks) = StartFrom floor marks
StartFrom floor (EndMark ∷ marks) = StartFrom floor marks

-- each floor is true of what comes behind it, and nothing comes behind an end
abbrev pub AreTrue : List Mark → Type 0
AreTrue [] = Unit {0}
AreTrue (NoteMark note ∷ marks) = AreTrue marks
AreTrue (PieceMark piece ∷ marks) = AreTrue marks
AreTrue (FloorMark start ∷ marks) = StartFrom start marks × AreTrue marks
AreTrue (EndMark ∷ marks) = marks ≡ []

-- a list begins with another
abbrev pub Begins : {X : Type 0} → List X → List X → Type 0
Begins {X} front list = (rest : List X) × (front ++ rest ≡ list)

-- these are all marks of `count` instances, those pushed so far and those to come; what they say of
-- each other is true
pub record Continues (count : ℕ) (marks all : ℕ → List Mark) : Type 0 where
  pub begins : (instance : ℕ) → instance < count → Begins (marks instance) (all instance)
  pub are_true : (instance : ℕ) → instance < count → AreTrue (all instance)
