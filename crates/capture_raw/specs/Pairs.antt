-- Units of two bytes, four in a word.
use Rattle.std.specs.Prelude.{ℕ, ◌≡◌, ◌+◌, ◌*◌, ◌<◌}
use Rattle.std.specs.Int.{bit_at}

-- the word is four times this unit
abbrev pub FourOf : ℕ → ℕ → Type 0
FourOf word unit = (k i : ℕ) → k < 4 → i < 16 → bit_at word (16 * k + i) ≡ bit_at unit i
