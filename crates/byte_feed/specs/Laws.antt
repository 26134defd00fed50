-- What holds of the tokens and lines of all bytes.
use Rattle.std.specs.Prelude.{ℕ, ◌≡◌, ◌-◌, ◌^◌, ◌<◌, ◌≤◌, ◌⊎◌, List, [], ◌∷◌, ◌++◌, length}
use Rattle.std.specs.Prelude.{slice_index, take}
use Rattle.text_parts.specs.Places.{Placed}
use Rattle.la_io.specs.declared.fault.CaptureFault.{CaptureFault}
use Rattle.la_io.specs.Capture.{Told, Cut, Faulty, Open}
use Rattle.byte_feed.specs.Parts.{Fed, behind}
use Rattle.byte_feed.specs.Tokens.{tokens_of}
use Rattle.byte_feed.specs.Lines.{lines_of}

-- more tokens, or lines, behind those of a front that has no fault; or the same as those of a front
-- that has one
abbrev pub Extends : Fed → Fed → Type 0
Extends front whole =
    ((front.ending ≡ Open) × (rest : List Placed) × (whole.items ≡ front.items ++ rest))
    ⊎ ((fault : CaptureFault) × (front.ending ≡ Faulty fault) × (whole ≡ front))

-- the tokens of bytes that are cut are the first of those of every longer input, and a fault among
-- them stays
abbrev pub TokensExtend : Type 0
TokensExtend =
    (front more : List ℕ) (told : Told)
    → Extends (tokens_of front Cut) (tokens_of (front ++ more) told)

-- and so it is with lines
abbrev pub LinesExtend : Type 0
LinesExtend =
    (front more : List ℕ) (told : Told)
    → Extends (lines_of front Cut) (lines_of (front ++ more) told)

-- where bytes have a line behind others, there is a place in them, right behind a line feed, up to
-- which those others alone are the lines
abbrev pub LinesCanBeCut : Type 0
LinesCanBeCut =
    (bytes : List ℕ) (told : Told) (first : Placed) (items : List Placed) (item : Placed)
    (rest : Fed) → length bytes ≤ 2 ^ 60
    → lines_of bytes told ≡ behind (first ∷ (items ++ item ∷ [])) rest
    → (count : ℕ) × (count < length bytes) × (0 < count) × (slice_index bytes (count - 1) ≡ 10)
    × (lines_of (take count bytes) Cut ≡ record { items = first ∷ items; ending = Open })
