-- The tokens of bytes: the parts between blanks that aren't empty, each with the place of its first
-- byte.
use Rattle.std.specs.Prelude.{ℕ, ◌+◌, ◌^◌, ◌==◌, ◌||◌, ◌&&◌, nat_le, Bool, false, List, length}
use Rattle.std.specs.Prelude.{take}
use Rattle.la_io.specs.Capture.{Told, Ending}
use Rattle.byte_feed.specs.Parts.{Cutting, Fed, bytes_ending, parts_from}

-- tab, line feed, vertical tab, form feed, carriage return and space part tokens
abbrev pub is_blank : ℕ → Bool
is_blank byte = (byte == 32) || (nat_le 9 byte && nat_le byte 13)

-- a token's mark is its place: one blank stands between two parts
abbrev pub by_blanks : Cutting
by_blanks = record { ends_part = is_blank; empties = false; next = λ at part. at + length part + 1 }

-- the tokens of bytes that stand from a place on and end in this way
abbrev pub tokens_from : ℕ → Ending → List ℕ → Fed
tokens_from at how bytes = parts_from by_blanks at how bytes

-- the tokens of bytes
abbrev pub tokens_of : List ℕ → Told → Fed
tokens_of bytes told = tokens_from 0 (bytes_ending (length bytes) told) (take (2 ^ 60) bytes)
