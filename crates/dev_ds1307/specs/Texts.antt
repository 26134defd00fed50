-- The texts of notes, by the table of timekeeper registers (DS1307 data sheet, "Clock and
-- Calendar").
use Rattle.std.specs.Prelude.{ℕ, ◌/◌, ◌%◌, ◌^◌, ◌==◌, Bool, List, [], ◌++◌, codes, if◌then◌else◌}
use Rattle.line_text.specs.Texts.{hex}

-- the bit of this weight is 1
abbrev pub bit : ℕ → ℕ → Bool
bit byte weight = byte / weight % 2 == 1

abbrev pub if_set : ℕ → ℕ → List ℕ → List ℕ
if_set byte weight text = if bit byte weight then text else []

-- a label, and a value
abbrev pub labelled : List ℕ → ℕ → List ℕ
labelled label value = label ++ hex 2 value

-- the hours: bit 6 is 1 where they are those of the half of a day that bit 5 tells
abbrev pub hour_digits : ℕ → ℕ
hour_digits hours = if bit hours 64 then hours % 32 else hours % 64

abbrev pub half_of_day : ℕ → List ℕ
half_of_day hours = if bit hours 64 then (if bit hours 32 then codes " PM" else codes " AM") else []

-- a register by its name, and its value; bit 7 of the seconds stops the clock
abbrev pub register_text : ℕ → ℕ → List ℕ
register_text register byte =
    if register == 0
    then labelled (codes "seconds: ") (byte % 128) ++ if_set byte 128 (codes " stopped")
    else if register == 1 then labelled (codes "minutes: ") (byte % 128)
    else if register == 2 then labelled (codes "hours: ") (hour_digits byte) ++ half_of_day byte
    else if register == 3 then codes "day: " ++ hex 1 (byte % 8)
    else if register == 4 then labelled (codes "date: ") (byte % 64)
    else if register == 5 then labelled (codes "month: ") (byte % 32)
    else if register == 6 then labelled (codes "year: ") byte
    else if register == 7 then labelled (codes "control: ") byte
    else labelled (codes "RAM ") register ++ labelled (codes ": ") byte

-- the byte of a register in the number of a time
abbrev pub byte_in : ℕ → ℕ → ℕ
byte_in time register = time / 256 ^ register % 256

-- a time: hours, minutes and seconds, the half of the day; year, month, date, the day of the week,
-- and whether it stands
abbrev pub clock_text : ℕ → List ℕ
clock_text time =
    labelled [] (hour_digits (byte_in time 2)) ++ labelled (codes ":") (byte_in time 1 % 128)
    ++ labelled (codes ":") (byte_in time 0 % 128) ++ half_of_day (byte_in time 2)

abbrev pub date_text : ℕ → List ℕ
date_text time =
    labelled (codes ", ") (byte_in time 6) ++ labelled (codes "-") (byte_in time 5 % 32)
    ++ labelled (codes "-") (byte_in time 4 % 64)
    ++ (codes ", day " ++ hex 1 (byte_in time 3 % 8))
    ++ if_set (byte_in time 0) 128 (codes ", stopped")

abbrev pub time_text : ℕ → List ℕ
time_text time = clock_text time ++ date_text time

-- the text of a note by its class and values; nothing for a class that isn't one of these
abbrev pub note_text : ℕ → ℕ → ℕ → List ℕ
note_text class a b =
    if class == 0 then labelled (codes "Pointer: ") a
    else if class == 1 then codes "Write " ++ register_text b a
    else if class == 2 then codes "Read " ++ register_text b a
    else if class == 3 then codes "Set time: " ++ time_text a
    else if class == 4 then codes "Time: " ++ time_text a
    else []
