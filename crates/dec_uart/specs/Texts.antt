-- The texts of notes.
use Rattle.std.specs.Prelude.{ℕ, ◌==◌, List, [], codes, if◌then◌else◌}
use Rattle.line_text.specs.Texts.{hex}

-- the text of a note by its class and value; nothing for a class that isn't one of these
abbrev pub note_text : ℕ → ℕ → List ℕ
note_text class a =
    if class == 0 then codes "False start"
    else if class == 1 then hex 2 a
    else if class == 2 then codes "Parity error"
    else if class == 3 then codes "Frame error"
    else if class == 4 then codes "Break"
    else []
