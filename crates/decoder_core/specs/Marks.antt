-- What is taken of a decoder: its notes and pieces, and floors between them.
use Rattle.std.specs.Prelude.{ℕ, ◌≤◌, List, [], ◌∷◌}
use Rattle.la_base.specs.declared.wires.Mark.{Mark}
use Rattle.la_base.specs.declared.wires.Mark.TheVariants.{Note as NoteMark, Piece as PieceMark}
use Rattle.la_base.specs.declared.wires.Mark.TheVariants.{Floor as FloorMark, End as EndMark}

-- the notes and pieces among marks
abbrev pub shown : List Mark → List Mark
shown [] = []
shown (NoteMark note ∷ marks) = NoteMark note ∷ shown marks
shown (PieceMark piece ∷ marks) = PieceMark piece ∷ shown marks
shown (FloorMark start ∷ marks) = shown marks
shown (EndMark ∷ marks) = shown marks

-- each note among marks starts at the floor or later
abbrev pub MarksFrom : ℕ → List Mark → Type 0
MarksFrom floor [] = Unit {0}
MarksFrom floor (NoteMark note ∷ marks) = (floor ≤ note.start) × MarksFrom floor marks
MarksFrom floor (PieceMark piece ∷ marks) = MarksFrom floor marks
MarksFrom floor (FloorMark start ∷ marks) = MarksFrom floor marks
MarksFrom floor (EndMark ∷ marks) = MarksFrom floor marks

abbrev pub rest_behind : List Mark → List Mark
rest_behind [] = []
rest_behind (mark ∷ marks) = marks

-- behind each floor among the first marks all notes start at it or later. The second list has the
-- notes and pieces from the first of these marks on: those that were taken, and behind them those
-- that are still to come
abbrev pub FloorsHold : List Mark → List Mark → Type 0
FloorsHold [] all = Unit {0}
FloorsHold (NoteMark note ∷ marks) all = FloorsHold marks (rest_behind all)
FloorsHold (PieceMark piece ∷ marks) all = FloorsHold marks (rest_behind all)
FloorsHold (FloorMark start ∷ marks) all = MarksFrom start all × FloorsHold marks all
FloorsHold (EndMark ∷ marks) all = FloorsHold marks all
