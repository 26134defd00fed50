-- The line of a note.
use Rattle.std.specs.Prelude.{ℕ, List, ◌++◌, codes}
use Rattle.std.specs.Fmt.{decimal}
use Rattle.la_base.specs.declared.wires.Note.{Note}
use Rattle.kind_table.specs.Kinds.{kind_row}
use Rattle.kind_table.specs.declared.kinds.Kind.{Kind}
use Rattle.listing_out.specs.NoteTexts.{note_text}

-- the name of an instance within a line: the kind, and the number of the instance within its kind
abbrev pub name_as : Kind → ℕ → List ℕ
name_as kind number =
    codes " " ++ ((kind_row kind).name ++ codes "-" ++ decimal number) ++ codes ": "

-- the places of a note, the name of its instance (the kind, and the number of the instance within
-- its kind) and its text
abbrev pub line_as : Kind → ℕ → Note → List ℕ
line_as kind number note =
    decimal note.start ++ codes "-" ++ decimal note.end ++ name_as kind number
    ++ note_text kind note ++ codes "\n"
