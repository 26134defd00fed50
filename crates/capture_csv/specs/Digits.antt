-- Lines of which each field is one digit.
use Rattle.std.specs.Prelude.{ℕ, ◌≡◌, ◌<◌, ◌≤◌, ◌+◌, ◌-◌, ◌*◌, Bool, true, false, if◌then◌else◌}
use Rattle.std.specs.Prelude.{List, [], ◌∷◌, length, map, slice_index}
use Rattle.capture_csv.specs.Plain.{Written, line_of}

-- a level as a digit
abbrev pub digit_of : Bool → ℕ
digit_of level = if level then 49 else 48

-- the same as a field, with quotes round it or none
abbrev pub digit_field : Bool → Bool → Written
digit_field quoted level = record { quoted = quoted; text = digit_of level ∷ [] }

-- a line of them
abbrev pub digits_of : Bool → List Bool → List ℕ
digits_of quoted levels = line_of (map (digit_field quoted) levels)

-- a digit, 0 or 1, stands in this place of a line of digits, and a comma before it where it isn't
-- the first
abbrev pub DigitAt : List ℕ → ℕ → Type 0
DigitAt text k =
    (level : Bool) × (slice_index text (2 * k) ≡ digit_of level)
    × (1 ≤ k → slice_index text (2 * k - 1) ≡ 44)

-- a line is so many digits with a comma between two
pub record DigitsIn (text : List ℕ) (count : ℕ) : Type 0 where
  pub some : 0 < count
  pub len : length text + 1 ≡ 2 * count
  pub each : (k : ℕ) → k < count → DigitAt text k

-- a digit between quotes stands here
abbrev pub QuotedDigit : List ℕ → ℕ → Type 0
QuotedDigit text at =
    (level : Bool) × (slice_index text at ≡ 34) × (slice_index text (at + 1) ≡ digit_of level)
    × (slice_index text (at + 2) ≡ 34)

abbrev pub QuotedAt : List ℕ → ℕ → Type 0
QuotedAt text k = QuotedDigit text (4 * k) × (1 ≤ k → slice_index text (4 * k - 1) ≡ 44)

-- the same with quotes round each digit
pub record QuotedIn (text : List ℕ) (count : ℕ) : Type 0 where
  pub some : 0 < count
  pub len : length text + 1 ≡ 4 * count
  pub each : (k : ℕ) → k < count → QuotedAt text k

abbrev pub AreDigits : Bool → List ℕ → ℕ → Type 0
AreDigits true text count = QuotedIn text count
AreDigits false text count = DigitsIn text count
