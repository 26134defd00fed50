-- What the reader finds in lines whose fields are each plain or one quoted text.
use Rattle.std.specs.Prelude.{ℕ, ◌≡◌, ◌<◌, ◌≤◌, ◌==◌, Bool, true, false, List, [], ◌∷◌, ◌++◌, drop}
use Rattle.std.specs.Prelude.{length, slice_index, Option, Some, None}
use Rattle.capture_csv.specs.Plain.{AllSimple, IsSimple, NeedsCsv, Written, line_of, texts_of}
use Rattle.capture_csv.specs.Plain.{written}

-- so many bytes at the front aren't this one
abbrev pub AllBefore : ℕ → List ℕ → ℕ → Type 0
AllBefore byte text count = (k : ℕ) → k < count → (slice_index text k == byte) ≡ false

-- whether a quote stands first
abbrev pub IsQuoted : List ℕ → Bool → Type 0
IsQuoted text true = (0 < length text) × (slice_index text 0 ≡ 34)
IsQuoted text false = 0 < length text → (slice_index text 0 == 34) ≡ false

-- nothing, or a comma first
abbrev pub IsBehind : List ℕ → Type 0
IsBehind [] = Unit {0}
IsBehind (byte ∷ rest) = byte ≡ 44

-- a line begins with this field
pub record BeginsWith (text : List ℕ) (field : Written) (after : List ℕ) : Type 0 where
  pub simple : IsSimple field
  pub behind : IsBehind after
  pub is : text ≡ written field ++ after

abbrev pub BeginsSimply : List ℕ → Type 0
BeginsSimply text = (field : Written) × (after : List ℕ) × BeginsWith text field after

-- the bytes of such a field
abbrev pub IsField : List ℕ → Type 0
IsField bytes = (field : Written) × IsSimple field × (bytes ≡ written field)

-- whether a field ends before this place
abbrev pub EndsAt : List ℕ → ℕ → Bool → Type 0
EndsAt text at true = IsBehind (drop at text)
EndsAt text at false = IsBehind (drop at text) → ⊥

-- how many bytes this field takes
abbrev pub FirstLen : List ℕ → ℕ → Type 0
FirstLen text len =
    (field : Written) (after : List ℕ) → BeginsWith text field after → len ≡ length (written field)

-- the same, or a line doesn't begin so
abbrev pub LenIs : List ℕ → Option ℕ → Type 0
LenIs text (Some len) = (len ≤ length text) × BeginsSimply text × FirstLen text len
LenIs text None = BeginsSimply text → ⊥

-- a line of such fields, which have these texts
pub record IsSimpleLine (text : List ℕ) (fields : List (List ℕ)) : Type 0 where
  pub all : List Written
  pub each : AllSimple all
  pub line : text ≡ line_of all
  pub fields_are : fields ≡ texts_of all

-- so many of them
abbrev pub HasFields : List ℕ → ℕ → Type 0
HasFields text count = (fields : List (List ℕ)) × IsSimpleLine text fields × (length fields ≡ count)

-- how many fields such a line has, or it is none
abbrev pub CountIs : List ℕ → Option ℕ → Type 0
CountIs text (Some count) = HasFields text count
CountIs text None = NeedsCsv text
