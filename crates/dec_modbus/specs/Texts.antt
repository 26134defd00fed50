-- The texts of notes.
use Rattle.std.specs.Prelude.{ℕ, ◌-◌, nat_lt, ◌==◌, List, [], ◌++◌, codes, if◌then◌else◌}
use Rattle.std.specs.Fmt.{decimal}
use Rattle.line_text.specs.Texts.{hex}

-- the name of a function code
abbrev pub function_name : ℕ → List ℕ
function_name code =
    if code == 1 then codes "Read coils"
    else if code == 2 then codes "Read discrete inputs"
    else if code == 3 then codes "Read holding registers"
    else if code == 4 then codes "Read input registers"
    else if code == 5 then codes "Write single coil"
    else if code == 6 then codes "Write single register"
    else if code == 15 then codes "Write multiple coils"
    else if code == 16 then codes "Write multiple registers"
    else hex 2 code

-- the name of a function; an answer that tells of an exception has the code of its function with 1
-- as its highest bit
abbrev pub reply_name : ℕ → List ℕ
reply_name code =
    if nat_lt code 128 then function_name code
    else codes "Exception " ++ function_name (code - 128)

-- a number of bytes between two texts
abbrev pub count_name : List ℕ → ℕ → List ℕ → List ℕ
count_name front count back = front ++ (decimal count ++ back)

-- whether a CRC is right
abbrev pub crc_name : ℕ → List ℕ
crc_name wrong = if wrong == 0 then codes " bytes, CRC ok" else codes " bytes, CRC bad"

-- the text of a note by its class and values; nothing for a class that isn't one of these
abbrev pub note_text : ℕ → ℕ → ℕ → List ℕ
note_text class a b =
    if class == 0 then codes "Address: " ++ hex 2 a
    else if class == 1 then codes "Function: " ++ reply_name a
    else if class == 2 then codes "Byte: " ++ hex 2 a
    else if class == 3 then count_name (codes "Message of ") a (crc_name b)
    else if class == 4 then count_name (codes "Short message of ") a (codes " bytes")
    else if class == 5 then count_name (codes "Long message of ") a (codes " bytes")
    else if class == 6 then count_name (codes "Message of ") a (codes " bytes, line errors")
    else []
