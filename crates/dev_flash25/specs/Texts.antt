-- The texts of notes.
use Rattle.std.specs.Prelude.{ℕ, ◌==◌, ◌/◌, ◌%◌, List, [], ◌++◌, codes, if◌then◌else◌}
use Rattle.std.specs.Fmt.{decimal}
use Rattle.line_text.specs.Texts.{hex}

-- the name of an instruction
abbrev pub command_name : ℕ → List ℕ
command_name command =
    if command == 6 then codes "Write enable"
    else if command == 4 then codes "Write disable"
    else if command == 159 then codes "Read ID"
    else if command == 5 then codes "Read status"
    else if command == 1 then codes "Write status"
    else if command == 3 then codes "Read data"
    else if command == 11 then codes "Fast read"
    else if command == 2 then codes "Page program"
    else if command == 32 then codes "Sector erase"
    else if command == 216 then codes "Block erase"
    else if command == 199 then codes "Chip erase"
    else if command == 96 then codes "Chip erase"
    else if command == 185 then codes "Deep power down"
    else if command == 171 then codes "Release"
    else hex 2 command

-- the three bytes of an identification
abbrev pub id_name : ℕ → List ℕ
id_name id =
    hex 2 (id / 65536 % 256)
    ++ (codes " " ++ hex 2 (id / 256 % 256) ++ (codes " " ++ hex 2 (id % 256)))

-- which bits of a status are 1: that the flash is busy, and that it may be written to
abbrev pub busy_name : ℕ → List ℕ
busy_name status = if status % 2 == 1 then codes " WIP" else []

abbrev pub enabled_name : ℕ → List ℕ
enabled_name status = if status / 2 % 2 == 1 then codes " WEL" else []

-- an address with a byte behind it, and a number of bytes at one
abbrev pub at_name : ℕ → ℕ → List ℕ
at_name b a = hex 6 b ++ (codes ": " ++ hex 2 a)

abbrev pub count_name : ℕ → ℕ → List ℕ
count_name a b = decimal a ++ (codes " bytes at " ++ hex 6 b)

-- the text of a note by its class and values; nothing for a class that isn't one of these
abbrev pub note_text : ℕ → ℕ → ℕ → List ℕ
note_text class a b =
    if class == 0 then codes "Command: " ++ command_name a
    else if class == 1 then codes "ID: " ++ id_name a
    else if class == 2 then codes "Status: " ++ hex 2 a ++ (busy_name a ++ enabled_name a)
    else if class == 3 then codes "Write status: " ++ hex 2 a
    else if class == 4 then codes "Address: " ++ hex 6 a
    else if class == 5 then codes "Read " ++ at_name b a
    else if class == 6 then codes "Program " ++ at_name b a
    else if class == 7 then codes "Read " ++ count_name a b
    else if class == 8 then codes "Program " ++ count_name a b
    else if class == 9 then codes "Erase sector at " ++ hex 6 b
    else if class == 10 then codes "Erase block at " ++ hex 6 b
    else if class == 11 then codes "Erase chip"
    else []
