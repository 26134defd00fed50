-- The texts of notes.
use Rattle.std.specs.Prelude.{ℕ, ◌-◌, ◌*◌, ◌/◌, ◌%◌, ◌==◌, nat_le, Bool, List, [], ◌++◌, codes}
use Rattle.std.specs.Prelude.{if◌then◌else◌}
use Rattle.line_text.specs.Texts.{fixed, hex}

-- a value is nine bits of two's complement in half degrees (LM75 data sheet, "Temperature Data
-- Format")
abbrev pub is_below_zero : ℕ → Bool
is_below_zero value = nat_le 256 (value % 512)

abbrev pub magnitude : ℕ → ℕ
magnitude value = if is_below_zero value then 512 - value % 512 else value % 512

-- the value in degrees, with one decimal
abbrev pub degrees : ℕ → List ℕ
degrees value = fixed (is_below_zero value) (magnitude value / 2) (magnitude value % 2 * 5) 1

-- the text of a note by its class and value; nothing for a class that isn't one of these
abbrev pub note_text : ℕ → ℕ → List ℕ
note_text class a =
    if class == 0 then codes "Pointer: " ++ hex 1 a
    else if class == 1 then codes "Write configuration: " ++ hex 2 a
    else if class == 2 then codes "Read configuration: " ++ hex 2 a
    else if class == 3 then codes "Read temperature: " ++ degrees a
    else if class == 4 then codes "Write THYST: " ++ degrees a
    else if class == 5 then codes "Read THYST: " ++ degrees a
    else if class == 6 then codes "Write TOS: " ++ degrees a
    else if class == 7 then codes "Read TOS: " ++ degrees a
    else []
