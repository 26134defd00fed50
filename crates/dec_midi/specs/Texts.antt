-- The texts of notes.
use Rattle.std.specs.Prelude.{ℕ, ◌+◌, ◌*◌, ◌/◌, ◌%◌, ◌==◌, List, [], ◌++◌, codes, if◌then◌else◌}
use Rattle.std.specs.Fmt.{decimal}
use Rattle.line_text.specs.Texts.{hex}

-- the channel of a message is the low four bits of its status, and 1
abbrev pub channel : ℕ → ℕ
channel a = a / 65536 % 16 + 1

-- its two data bytes, and the number that they make up, the second the upper half
abbrev pub datum_one : ℕ → ℕ
datum_one a = a / 256 % 256

abbrev pub datum_two : ℕ → ℕ
datum_two a = a % 256

abbrev pub wide_number : ℕ → ℕ
wide_number a = 128 * datum_two a + datum_one a

-- what stands behind the name of a channel message
abbrev pub on_channel : ℕ → List ℕ
on_channel a = codes " channel " ++ (decimal (channel a) ++ codes ": ")

abbrev pub with_one : ℕ → List ℕ
with_one a = on_channel a ++ decimal (datum_one a)

abbrev pub with_two : ℕ → List ℕ
with_two a =
    on_channel a ++ (decimal (datum_one a) ++ (codes " " ++ decimal (datum_two a)))

abbrev pub with_wide : ℕ → List ℕ
with_wide a = on_channel a ++ decimal (wide_number a)

-- the name of a real time message
abbrev pub real_time_name : ℕ → List ℕ
real_time_name byte =
    if byte == 248 then codes "clock"
    else if byte == 250 then codes "start"
    else if byte == 251 then codes "continue"
    else if byte == 252 then codes "stop"
    else if byte == 254 then codes "active sensing"
    else if byte == 255 then codes "reset"
    else hex 2 byte

-- the text of a note by its class and value; nothing for a class that isn't one of these
abbrev pub note_text : ℕ → ℕ → List ℕ
note_text class a =
    if class == 0 then codes "Note off" ++ with_two a
    else if class == 1 then codes "Note on" ++ with_two a
    else if class == 2 then codes "Key pressure" ++ with_two a
    else if class == 3 then codes "Control change" ++ with_two a
    else if class == 4 then codes "Program change" ++ with_one a
    else if class == 5 then codes "Channel pressure" ++ with_one a
    else if class == 6 then codes "Pitch bend" ++ with_wide a
    else if class == 7 then codes "Quarter frame: " ++ decimal (datum_one a)
    else if class == 8 then codes "Song position: " ++ decimal (wide_number a)
    else if class == 9 then codes "Song select: " ++ decimal (datum_one a)
    else if class == 10 then codes "Tune request"
    else if class == 11 then codes "Realtime: " ++ real_time_name a
    else if class == 12 then codes "System exclusive: " ++ (decimal a ++ codes " bytes")
    else if class == 13 then codes "System exclusive cut: " ++ (decimal a ++ codes " bytes")
    else if class == 14 then codes "Stray: " ++ hex 2 a
    else if class == 15 then codes "Undefined: " ++ hex 2 a
    else []
