-- Lines that are read without `csv`: each of their fields is plain or one quoted text.
use Rattle.std.specs.Prelude.{ℕ, ◌≡◌, ◌<◌, ◌==◌, Bool, true, false, if◌then◌else◌, List, [], ◌∷◌}
use Rattle.std.specs.Prelude.{◌++◌, length, map}
use Rattle.std.specs.List.{All, join_with_byte, slice_split}
use Rattle.capture_csv.specs.Fields.{fields_in}

-- a byte is no quote and none of a line's end
abbrev pub IsPlainByte : ℕ → Type 0
IsPlainByte byte = ((byte == 34) ≡ false) × ((byte == 10) ≡ false) × ((byte == 13) ≡ false)

-- no byte is a quote or of a line's end
abbrev pub IsPlain : List ℕ → Type 0
IsPlain [] = Unit {0}
IsPlain (byte ∷ bytes) =
    ((byte == 34) ≡ false) × ((byte == 10) ≡ false) × ((byte == 13) ≡ false) × IsPlain bytes

-- the fields of a line without quotes are the parts between commas
abbrev pub PlainIsSplit : Type 0
PlainIsSplit =
    (line : List ℕ) → 0 < length line → IsPlain line
    → fields_in line ≡ slice_split (λ byte. byte == 44) line

-- a field as a line writes it: its text, or this between two quotes
pub record Written : Type 0 where
  pub quoted : Bool
  pub text : List ℕ

abbrev pub written : Written → List ℕ
written field = if field.quoted then 34 ∷ (field.text ++ 34 ∷ []) else field.text

-- a text between quotes has none in it; any other has also no comma and no end of a line
abbrev pub IsSimpleText : Bool → List ℕ → Type 0
IsSimpleText true text = All (λ byte. (byte == 34) ≡ false) text
IsSimpleText false text = IsPlain text × All (λ byte. (byte == 44) ≡ false) text

abbrev pub IsSimple : Written → Type 0
IsSimple field = IsSimpleText field.quoted field.text

abbrev pub AllSimple : List Written → Type 0
AllSimple [] = Unit {0}
AllSimple (field ∷ fields) = IsSimple field × AllSimple fields

-- fields with a comma between two
abbrev pub line_of : List Written → List ℕ
line_of fields = join_with_byte 44 (map written fields)

abbrev pub texts_of : List Written → List (List ℕ)
texts_of fields = map (λ field. field.text) fields

-- the fields of a line of such fields are their texts
abbrev pub SimpleIsRead : Type 0
SimpleIsRead =
    (fields : List Written) → AllSimple fields → 0 < length (line_of fields)
    → fields_in (line_of fields) ≡ texts_of fields

-- any other line needs `csv`
abbrev pub NeedsCsv : List ℕ → Type 0
NeedsCsv line = (fields : List Written) → AllSimple fields → line ≡ line_of fields → ⊥
