-- The lines of bytes, each with its number, counted from 1.
use Rattle.std.specs.Prelude.{ℕ, zero, suc, ◌+◌, ◌^◌, ◌==◌, nat_eq, Bool, true, if◌then◌else◌}
use Rattle.std.specs.Prelude.{List, [], ◌∷◌, length, take, drop}
use Rattle.std.specs.List.{starts_with}
use Rattle.text_parts.specs.Places.{Placed}
use Rattle.la_io.specs.Capture.{Told, Ending}
use Rattle.la_io.specs.Intake.{without}
use Rattle.byte_feed.specs.Parts.{Cutting, Fed, bytes_ending, parts_from}

-- a line feed ends a line
abbrev pub is_feed : ℕ → Bool
is_feed byte = byte == 10

-- carriage returns are of no line
abbrev pub kept : List ℕ → List ℕ
kept bytes = without 13 bytes

-- the byte order mark, as UTF-8
abbrev pub mark : List ℕ
mark = 239 ∷ 187 ∷ 191 ∷ []

abbrev pub without_mark : List ℕ → List ℕ
without_mark bytes = if starts_with nat_eq bytes mark then drop 3 bytes else bytes

-- a line's mark is its number; an empty line counts
abbrev pub by_feeds : Cutting
by_feeds = record { ends_part = is_feed; empties = true; next = λ number line. number + 1 }

-- the lines of bytes that end in this way, the first of this number
abbrev pub lines_from : ℕ → Ending → List ℕ → Fed
lines_from number how bytes = parts_from by_feeds number how bytes

-- a mark before the first line is no part of it
abbrev pub unmarked : ℕ → List ℕ → List ℕ
unmarked lines bytes = if lines == 0 then without_mark bytes else bytes

-- the lines of what stands behind so many lines
abbrev pub lines_behind : ℕ → Ending → List ℕ → Fed
lines_behind lines how bytes = lines_from (lines + 1) how (unmarked lines bytes)

-- the lines of bytes
abbrev pub lines_of : List ℕ → Told → Fed
lines_of bytes told = lines_behind 0 (bytes_ending (length bytes) told) (kept (take (2 ^ 60) bytes))

-- one text as so many lines, behind so many others
abbrev pub repeated : ℕ → List ℕ → ℕ → List Placed
repeated lines text zero = []
repeated lines text (suc count) = (lines + 1, text) ∷ repeated (lines + 1) text count
