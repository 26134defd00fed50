-- The parts of a text between separators, each with the place of its first byte.
use Rattle.std.specs.Prelude.{ℕ, ◌≡◌, ◌+◌, ◌==◌, List, [], ◌∷◌, length}
use Rattle.std.specs.List.{slice_split}

-- a part, and the place of its first byte
abbrev pub Placed : Type 0
Placed = ℕ × List ℕ

-- parts with one separator behind each, from a place on
abbrev pub placed_from : ℕ → List (List ℕ) → List Placed
placed_from at [] = []
placed_from at (part ∷ parts) = (at, part) ∷ placed_from (at + length part + 1) parts

-- the parts of a text between separators
abbrev pub parts_between : ℕ → List ℕ → List Placed
parts_between separator text = placed_from 0 (slice_split (λ byte. byte == separator) text)

-- the bytes of parts with a separator behind each
abbrev pub width : List (List ℕ) → ℕ
width [] = 0
width (part ∷ parts) = length part + 1 + width parts

-- the parts of a text are as wide as the text and one more separator
abbrev pub PartsFill : ℕ → List ℕ → Type 0
PartsFill separator text = width (slice_split (λ byte. byte == separator) text) ≡ length text + 1
