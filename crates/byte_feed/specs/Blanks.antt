-- Bytes at a front that are blanks, and that are none.
use Rattle.std.specs.Prelude.{ℕ, ◌≡◌, ◌<◌, true, List, slice_index}
use Rattle.byte_feed.specs.Parts.{NoneEnds}
use Rattle.byte_feed.specs.Tokens.{by_blanks, is_blank}

-- so many bytes at the front are blanks
abbrev pub AllBlank : List ℕ → ℕ → Type 0
AllBlank bytes count = (k : ℕ) → k < count → is_blank (slice_index bytes k) ≡ true

-- so many bytes at the front are no blanks
abbrev pub AllPlain : List ℕ → ℕ → Type 0
AllPlain bytes count = NoneEnds by_blanks bytes count
