-- The texts of notes.
use Rattle.std.specs.Prelude.{ℕ, ◌==◌, List, [], ◌++◌, codes, if◌then◌else◌}
use Rattle.line_text.specs.Texts.{hex}

-- the text of a note by its class and values; nothing for a class that isn't one of these
abbrev pub note_text : ℕ → ℕ → ℕ → List ℕ
note_text class a b =
    if class == 0 then codes "Word address: " ++ hex 4 a
    else if class == 1 then codes "Write " ++ hex 4 b ++ (codes ": " ++ hex 2 a)
    else if class == 2 then codes "Read " ++ hex 4 b ++ (codes ": " ++ hex 2 a)
    else []
