-- When a note that is held may be given: where no later note can come before it.
use Rattle.std.specs.Prelude.{ℕ, ◌≡◌, ◌≤◌, ◌<◌, List, [], ◌∷◌, Option, Some, None}
use Rattle.la_base.specs.declared.wires.Mark.{Mark}
use Rattle.la_base.specs.declared.wires.Mark.TheVariants.{Note as NoteMark, Piece as PieceMark}
use Rattle.la_base.specs.declared.wires.Mark.TheVariants.{Floor as FloorMark, End as EndMark}
use Rattle.note_order.specs.declared.entry.Entry.{Entry}

-- the last floor among marks, where one stood before them; none where an end is the last
abbrev pub bound_behind : Option ℕ → List Mark → Option ℕ
bound_behind bound [] = bound
bound_behind bound (NoteMark note ∷ marks) = bound_behind bound marks
bound_behind bound (PieceMark piece ∷ marks) = bound_behind bound marks
bound_behind bound (FloorMark start ∷ marks) = bound_behind (Some start) marks
bound_behind bound (EndMark ∷ marks) = bound_behind None marks

-- the last floor of an instance, which is 0 before the first; none where it has ended
abbrev pub bound_of : List Mark → Option ℕ
bound_of marks = bound_behind (Some 0) marks

-- an instance of this bound allows a note of some instance that starts here: it has ended, or its
-- floor is above that start; or that is its floor, and it isn't below the instance of the note
abbrev pub AllowsAt : Option ℕ → ℕ → ℕ → ℕ → Type 0
AllowsAt None instance start of = Unit {0}
AllowsAt (Some floor) instance start of =
    (start ≤ floor) × (floor ≡ start → of ≤ instance)

abbrev pub Allows : Option ℕ → ℕ → Entry → Type 0
Allows bound instance entry = AllowsAt bound instance entry.note.start entry.instance

-- each of `count` instances allows a note
abbrev pub IsAllowed : ℕ → (ℕ → List Mark) → Entry → Type 0
IsAllowed count marks entry =
    (instance : ℕ) → instance < count → Allows (bound_of (marks instance)) instance entry

-- each of them has ended
abbrev pub HaveEnded : ℕ → (ℕ → List Mark) → Type 0
HaveEnded count marks = (instance : ℕ) → instance < count → bound_of (marks instance) ≡ None
