-- The texts of notes.
use Rattle.std.specs.Prelude.{ℕ, ◌-◌, ◌*◌, ◌/◌, ◌%◌, nat_lt, ◌==◌, List, [], ◌++◌, codes}
use Rattle.std.specs.Prelude.{if◌then◌else◌}
use Rattle.std.specs.Fmt.{decimal}
use Rattle.line_text.specs.Texts.{hex, sign, fixed}

-- the name of a function
abbrev pub function_name : ℕ → List ℕ
function_name function =
    if function == 68 then codes "Convert T"
    else if function == 78 then codes "Write scratchpad"
    else if function == 190 then codes "Read scratchpad"
    else if function == 72 then codes "Copy scratchpad"
    else if function == 184 then codes "Recall E2"
    else if function == 180 then codes "Read power supply"
    else codes "Function " ++ hex 2 function

-- the size of a number in two's complement, of which there are so many
abbrev pub size_of : ℕ → ℕ → ℕ
size_of count number = if nat_lt number (count / 2) then number else count - number

-- a temperature of 16 bits in sixteenths of a degree
abbrev pub degrees_name : ℕ → List ℕ
degrees_name number =
    fixed (nat_lt 32767 number) (size_of 65536 number / 16) (size_of 65536 number % 16 * 625) 4

-- a limit of eight bits in degrees
abbrev pub limit_name : ℕ → List ℕ
limit_name number = sign (nat_lt 127 number) ++ decimal (size_of 256 number)

abbrev pub limits_name : ℕ → ℕ → List ℕ
limits_name high low = limit_name (high % 256) ++ (codes " " ++ limit_name (low % 256))

-- the text of a note by its class and values; nothing for a class that isn't one of these
abbrev pub note_text : ℕ → ℕ → ℕ → List ℕ
note_text class a b =
    if class == 0 then function_name a
    else if class == 1 then codes "Temperature: " ++ degrees_name (a % 65536)
    else if class == 2 then codes "Limits: " ++ limits_name a b
    else if class == 3 then codes "Resolution: " ++ decimal a
    else if class == 4 then (if a == 0 then codes "CRC ok" else codes "CRC bad")
    else if class == 5 then codes "Write limits: " ++ limits_name a b
    else if class == 6 then codes "Write resolution: " ++ decimal a
    else []
