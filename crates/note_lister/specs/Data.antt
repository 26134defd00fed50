-- The binary data among marks.
use Rattle.std.specs.Prelude.{ℕ, ◌==◌, if◌then◌else◌, List, [], ◌∷◌, Option, Some, None}
use Rattle.la_base.specs.declared.wires.Mark.{Mark}
use Rattle.la_base.specs.declared.wires.Mark.TheVariants.{Note as NoteMark, Piece as PieceMark}
use Rattle.la_base.specs.declared.wires.Mark.TheVariants.{Floor as FloorMark, End as EndMark}

-- the bytes of one class of binary data among marks
abbrev pub bytes_in : ℕ → List Mark → List ℕ
bytes_in class [] = []
bytes_in class (NoteMark note ∷ marks) = bytes_in class marks
bytes_in class (PieceMark piece ∷ marks) =
    if piece.class == class then piece.byte ∷ bytes_in class marks else bytes_in class marks
bytes_in class (FloorMark start ∷ marks) = bytes_in class marks
bytes_in class (EndMark ∷ marks) = bytes_in class marks

-- those of a mark of an instance, where they are wanted
abbrev pub wanted_of : ℕ × ℕ → ℕ → Mark → List ℕ
wanted_of wanted instance mark = if wanted.0 == instance then bytes_in wanted.1 (mark ∷ []) else []

abbrev pub wanted_by : Option (ℕ × ℕ) → ℕ → Mark → List ℕ
wanted_by None instance mark = []
wanted_by (Some wanted) instance mark = wanted_of wanted instance mark
