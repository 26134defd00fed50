-- The records of a CSV file: the fields of its lines, without the spaces round them.
use Rattle.std.specs.Prelude.{ℕ, ◌==◌, ◌||◌, nat_eq, Bool, true, if◌then◌else◌, List, [], ◌∷◌, ◌++◌}
use Rattle.std.specs.Prelude.{map, reverse}
use Rattle.std.specs.List.{starts_with}
use Rattle.text_parts.specs.Places.{Placed}
use Rattle.byte_feed.specs.Lines.{mark}
use Rattle.capture_csv.specs.Fields.{fields_in}

-- a record: the number of its line, and its fields
abbrev pub Record : Type 0
Record = ℕ × List (List ℕ)

-- space and tab
abbrev pub is_space : ℕ → Bool
is_space byte = (byte == 32) || (byte == 9)

-- byte order marks at the front are dropped, as often as they stand there
abbrev pub without_marks : List ℕ → List ℕ
without_marks [] = []
without_marks (x ∷ []) = x ∷ []
without_marks (x ∷ y ∷ []) = x ∷ y ∷ []
without_marks (x ∷ y ∷ z ∷ rest) =
    if starts_with nat_eq (x ∷ y ∷ z ∷ []) mark then without_marks rest else x ∷ y ∷ z ∷ rest

-- a line of spaces and tabs, and one that begins with `;` or `#` behind them, is no record
abbrev pub is_passed : List ℕ → Bool
is_passed [] = true
is_passed (byte ∷ bytes) = if is_space byte then is_passed bytes else (byte == 59) || (byte == 35)

-- spaces and tabs at the front, and at the end, are dropped
abbrev pub trim_front : List ℕ → List ℕ
trim_front [] = []
trim_front (byte ∷ bytes) = if is_space byte then trim_front bytes else byte ∷ bytes

abbrev pub trim_back : List ℕ → List ℕ
trim_back field = reverse (trim_front (reverse field))

abbrev pub trimmed : List ℕ → List ℕ
trimmed field = trim_back (trim_front field)

-- the record of the text of a line, if it is one
abbrev pub record_in : ℕ → List ℕ → List Record
record_in number text = if is_passed text then [] else (number, map trimmed (fields_in text)) ∷ []

abbrev pub record_of : Placed → List Record
record_of line = record_in line.0 (without_marks line.1)

-- the records of lines
abbrev pub records_in : List Placed → List Record
records_in [] = []
records_in (line ∷ lines) = record_of line ++ records_in lines
