-- The texts of notes.
use Rattle.std.specs.Prelude.{ℕ, ◌==◌, ◌/◌, ◌%◌, List, [], ◌++◌, codes, if◌then◌else◌}
use Rattle.line_text.specs.Texts.{hex}

-- the name of the command of a general call (UM10204, 3.1.13): an odd byte is the address of a
-- hardware master, and a 1
abbrev pub command_name : ℕ → List ℕ
command_name byte =
    if byte == 6 then codes "reset and write address"
    else if byte == 4 then codes "write address"
    else if byte % 2 == 0 then hex 2 byte
    else codes "hardware master " ++ hex 2 (byte / 2)

-- the text of a note by its class and value; nothing for a class that isn't one of these
abbrev pub note_text : ℕ → ℕ → List ℕ
note_text class a =
    if class == 0 then codes "Start"
    else if class == 1 then codes "Start repeat"
    else if class == 2 then codes "Stop"
    else if class == 3 then codes "Address write: " ++ hex 2 a
    else if class == 4 then codes "Address read: " ++ hex 2 a
    else if class == 5 then codes "Data write: " ++ hex 2 a
    else if class == 6 then codes "Data read: " ++ hex 2 a
    else if class == 7 then codes "ACK"
    else if class == 8 then codes "NACK"
    else if class == 9 then codes "General call"
    else if class == 10 then codes "Prefix write: " ++ hex 2 a
    else if class == 11 then codes "Address 10-bit write: " ++ hex 4 a
    else if class == 12 then codes "Address 10-bit read: " ++ hex 4 a
    else if class == 13 then codes "Prefix read: " ++ hex 2 a
    else if class == 14 then codes "General call command: " ++ command_name a
    else []
