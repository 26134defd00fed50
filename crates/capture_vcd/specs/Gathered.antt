-- What the reader of a header keeps of its words, and what they declare.
use Rattle.std.specs.Prelude.{ℕ, ◌≡◌, ◌+◌, ◌==◌, ◌≤◌, ◌<◌, ◌⊎◌, ◌&&◌, not, true, false, nat_le}
use Rattle.std.specs.Prelude.{if◌then◌else◌, List, [], ◌∷◌, ◌++◌, drop, length, get_or, codes}
use Rattle.std.specs.Prelude.{Option, Some, None, Result, Ok, Err}
use Rattle.la_base.specs.Naming.{same_name}
use Rattle.rate_math.specs.Scale.{in_second}
use Rattle.rate_math.specs.declared.scale.TimeUnit.{TimeUnit}
use Rattle.la_io.specs.declared.fault.CaptureFault.{CaptureFault}
use Rattle.la_io.specs.declared.fault.CaptureFault.TheVariants.{Token, TooMany}
use Rattle.la_base.specs.Naming.{number_after}
use Rattle.text_parts.specs.Numbers.{is_number}
use Rattle.text_parts.specs.Places.{Placed}
use Rattle.capture_vcd.specs.Header.{Declared, Scale, Declares, Nothing, Variable, bit_names}
use Rattle.capture_vcd.specs.Header.{is_keyword, joined, says, variable_of}
use Rattle.capture_vcd.specs.declared.section.Word.{Word}
use Rattle.capture_vcd.specs.declared.section.Kind.{Kind}
use Rattle.capture_vcd.specs.declared.section.Kind.TheVariants as kind
use Rattle.capture_vcd.specs.declared.scale.Scale.{Scale as TimeScale}

-- a word as a token
abbrev pub placed : Word → Placed
placed word = (word.at, word.text.items)

-- a keyword of this kind of section
abbrev pub IsKind : List ℕ → Kind → Type 0
IsKind text kind.Outside = ⊥
IsKind text kind.Passed =
    (same_name (codes "$enddefinitions") text ≡ false)
    × (same_name (codes "$timescale") text ≡ false) × (same_name (codes "$var") text ≡ false)
IsKind text kind.Definitions = same_name (codes "$enddefinitions") text ≡ true
IsKind text kind.Scale =
    (same_name (codes "$enddefinitions") text ≡ false)
    × (same_name (codes "$timescale") text ≡ true)
IsKind text kind.Variable =
    (same_name (codes "$enddefinitions") text ≡ false)
    × (same_name (codes "$timescale") text ≡ false) × (same_name (codes "$var") text ≡ true)

-- what a token opens outside of sections
abbrev pub Opens : List ℕ → Kind → Type 0
Opens text kind.Outside = (is_keyword (0, text) && not (says (codes "$end") (0, text))) ≡ false
Opens text kind.Passed =
    ((is_keyword (0, text) && not (says (codes "$end") (0, text))) ≡ true) × IsKind text kind.Passed
Opens text kind.Definitions =
    ((is_keyword (0, text) && not (says (codes "$end") (0, text))) ≡ true)
    × IsKind text kind.Definitions
Opens text kind.Scale =
    ((is_keyword (0, text) && not (says (codes "$end") (0, text))) ≡ true) × IsKind text kind.Scale
Opens text kind.Variable =
    ((is_keyword (0, text) && not (says (codes "$end") (0, text))) ≡ true)
    × IsKind text kind.Variable

-- how many of a unit are a second, if it is one
abbrev pub per_second : Option TimeUnit → Option ℕ
per_second None = None
per_second (Some unit) = Some (in_second unit)

-- a time scale, or its fault, as what is declared
abbrev pub scale_said : Result TimeScale CaptureFault → Result Declared CaptureFault
scale_said (Ok scale) = Ok (Scale scale.count (in_second scale.unit))
scale_said (Err fault) = Err fault

-- a size from 1 to 65,535, and not too many channels; else the fault
abbrev pub WidthGives : ℕ → ℕ → List ℕ → Result ℕ CaptureFault → Type 0
WidthGives at before size (Ok width) =
    (is_number size ≡ true) × (number_after 0 size ≡ width) × (1 ≤ width) × (width ≤ 65535)
    × (before + width ≤ 4096)
WidthGives at before size (Err fault) = ((is_number size ≡ false) × (fault ≡ Token at))
    ⊎ ((is_number size ≡ true)
    × ((nat_le 1 (number_after 0 size) && nat_le (number_after 0 size) 65535) ≡ false)
    × (fault ≡ Token at))
    ⊎ ((is_number size ≡ true)
    × ((nat_le 1 (number_after 0 size) && nat_le (number_after 0 size) 65535) ≡ true)
    × (4096 < before + number_after 0 size) × (fault ≡ TooMany at))

-- the text of a word
abbrev pub text_at : List Placed → ℕ → List ℕ
text_at words k = (get_or words k (0, [])).1

-- the variable that words declare with so many channels
abbrev pub names_by : ℕ → List Placed → List (List ℕ)
names_by width words =
    if width == 1 then (text_at words 3 ++ joined (drop 4 words)) ∷ []
    else bit_names (text_at words 3) width

abbrev pub variable_by_words : ℕ → List Placed → Variable
variable_by_words width words = record { code = text_at words 2; names = names_by width words }

-- what the words of a `$var` give
abbrev pub VariableGives : ℕ → ℕ → List Placed → Result (Option ℕ) CaptureFault → Type 0
VariableGives at before words (Ok None) = variable_of at before words ≡ Ok Nothing
VariableGives at before words (Ok (Some width)) =
    (variable_of at before words ≡ Ok (Declares (variable_by_words width words)))
    × (4 ≤ length words) × (1 ≤ width) × (before + width ≤ 4096)
VariableGives at before words (Err fault) = variable_of at before words ≡ Err fault
