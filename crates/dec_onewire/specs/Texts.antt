-- The texts of notes.
use Rattle.std.specs.Prelude.{ℕ, ◌==◌, List, [], ◌++◌, codes, if◌then◌else◌}
use Rattle.std.specs.Int.{swap_bytes, w64}
use Rattle.line_text.specs.Texts.{hex}

-- the text of a note of the link by its class and value; nothing for a class that isn't one of
-- these
abbrev pub link_text : ℕ → ℕ → List ℕ
link_text class a =
    if class == 0 then codes "Reset"
    else if class == 1 then codes "Presence"
    else if class == 2 then (if a == 0 then codes "Bit: 0" else codes "Bit: 1")
    else []

-- the name of a ROM command
abbrev pub command_name : ℕ → List ℕ
command_name command =
    if command == 51 then codes "Read ROM"
    else if command == 85 then codes "Match ROM"
    else if command == 204 then codes "Skip ROM"
    else if command == 240 then codes "Search ROM"
    else if command == 236 then codes "Alarm search"
    else if command == 60 then codes "Overdrive skip ROM"
    else if command == 105 then codes "Overdrive match ROM"
    else if command == 165 then codes "Resume"
    else codes "Unknown " ++ hex 2 command

-- the bytes of a ROM, which is a number whose lowest byte has come first, in the order in which
-- they came
abbrev pub rom_name : ℕ → List ℕ
rom_name rom = hex 16 (swap_bytes w64 rom)

-- the text of a note of the network by its class and values; nothing for a class that isn't one of
-- these
abbrev pub net_text : ℕ → ℕ → ℕ → List ℕ
net_text class a b =
    if class == 0 then codes "Reset"
    else if class == 1 then codes "ROM command: " ++ command_name a
    else if class == 2 then codes "ROM: "
    ++ (rom_name a ++ (if b == 0 then codes " CRC ok" else codes " CRC bad"))
    else if class == 3 then codes "Byte: " ++ hex 2 a
    else []
