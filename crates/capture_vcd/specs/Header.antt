-- The header of a VCD file: its sections, and what they declare.
use Rattle.std.specs.Prelude.{ℕ, ◌+◌, ◌^◌, ◌==◌, ◌||◌, ◌&&◌, not, nat_le, nat_lt, nat_eq, Bool}
use Rattle.std.specs.Prelude.{if◌then◌else◌, List, [], ◌∷◌, ◌++◌, length, map, drop, codes, Option}
use Rattle.std.specs.Prelude.{Some, None, Result, Ok, Err}
use Rattle.std.specs.List.{flat_map, list_all, range_with_len, starts_with}
use Rattle.std.specs.Fmt.{decimal}
use Rattle.la_base.specs.Naming.{same_name}
use Rattle.la_io.specs.declared.fault.CaptureFault.{CaptureFault}
use Rattle.la_io.specs.declared.fault.CaptureFault.TheVariants.{Token, TooMany}
use Rattle.la_base.specs.Naming.{number_after}
use Rattle.text_parts.specs.Numbers.{is_number}
use Rattle.text_parts.specs.Places.{Placed}

-- a token has this text
abbrev pub says : List ℕ → Placed → Bool
says text token = same_name text token.1

-- a keyword begins with a dollar sign
abbrev pub is_keyword : Placed → Bool
is_keyword token = starts_with nat_eq token.1 (codes "$")

-- a section: its keyword, the tokens behind it, and the place of its `$end`
pub record Section : Type 0 where
  pub keyword : Placed
  pub words : List Placed
  pub end_at : ℕ

-- the sections of a header, and the tokens behind it where it has come to its end
pub record Cut : Type 0 where
  pub sections : List Section
  pub body : Option (List Placed)

-- one more section in front
abbrev pub with_section : Section → Cut → Cut
with_section section cut = record { sections = section ∷ cut.sections; body = cut.body }

-- the section that is open, with its words so far
abbrev pub Pending : Type 0
Pending = Option (Placed × List Placed)

-- a section goes up to its `$end`; that of `$enddefinitions` is the last. Outside, a keyword but
-- `$end` opens one, and other tokens are passed over
abbrev pub header_from : Pending → List Placed → Cut
header_from pending [] = record { sections = []; body = None }
header_from None (token ∷ tokens) =
    if is_keyword token && not (says (codes "$end") token)
    then header_from (Some (token, [])) tokens else header_from None tokens
header_from (Some section) (token ∷ tokens) =
    if not (says (codes "$end") token)
    then header_from (Some (section.0, section.1 ++ token ∷ [])) tokens
    else if says (codes "$enddefinitions") section.0
    then record { sections = []; body = Some tokens }
    else with_section (record { keyword = section.0; words = section.1; end_at = token.0 })
    (header_from None tokens)

-- a variable: its code, and the names of its channels from its least significant bit on
pub record Variable : Type 0 where
  pub code : List ℕ
  pub names : List (List ℕ)

-- what a section declares: a time scale of so many units, of which this many are a second; a
-- variable; or nothing
pub data Declared : Type 0 where
  Scale : (count a_second : ℕ) → Declared
  Declares : Variable → Declared
  Nothing : Declared

-- the texts of tokens, put together
abbrev pub joined : List Placed → List ℕ
joined tokens = flat_map (λ token. token.1) tokens

-- how many of a unit are a second
abbrev pub a_second : List ℕ → Option ℕ
a_second unit = if same_name (codes "s") unit then Some 1
    else if same_name (codes "ms") unit then Some (10 ^ 3)
    else if same_name (codes "us") unit then Some (10 ^ 6)
    else if same_name (codes "ns") unit then Some (10 ^ 9)
    else if same_name (codes "ps") unit then Some (10 ^ 12)
    else if same_name (codes "fs") unit then Some (10 ^ 15)
    else None

-- a count and a unit; else a fault at this place
abbrev pub scale_by : ℕ → ℕ → Option ℕ → Result Declared CaptureFault
scale_by at count None = Err (Token at)
scale_by at count (Some per_second) = Ok (Scale count per_second)

abbrev pub scale_of : ℕ → List ℕ → Result Declared CaptureFault
scale_of at text =
    if starts_with nat_eq text (codes "100") then scale_by at 100 (a_second (drop 3 text))
    else if starts_with nat_eq text (codes "10") then scale_by at 10 (a_second (drop 2 text))
    else if starts_with nat_eq text (codes "1") then scale_by at 1 (a_second (drop 1 text))
    else Err (Token at)

-- where a time scale is at fault: its first word, or its end
abbrev pub first_at : ℕ → List Placed → ℕ
first_at end_at [] = end_at
first_at end_at (word ∷ words) = word.0

-- the names of the bits of a vector
unfoldable pub bit_names : List ℕ → ℕ → List (List ℕ)
bit_names reference width =
    map (λ bit. reference ++ codes "." ++ decimal bit) (range_with_len 0 width)

-- the channels that sections have declared
abbrev pub channels_of : List Declared → List (List ℕ)
channels_of [] = []
channels_of (Scale count per_second ∷ declared) = channels_of declared
channels_of (Declares variable ∷ declared) = variable.names ++ channels_of declared
channels_of (Nothing ∷ declared) = channels_of declared

-- a variable whose channels aren't too many with those before it
abbrev pub declare : ℕ → ℕ → ℕ → Variable → Result Declared CaptureFault
declare at before width variable =
    if nat_lt 4096 (before + width) then Err (TooMany at) else Ok (Declares variable)

-- such a type has no channels
abbrev pub has_no_channel : List ℕ → Bool
has_no_channel type =
    same_name (codes "real") type || same_name (codes "realtime") type || same_name
    (codes "string") type

abbrev pub is_code : List ℕ → Bool
is_code code = list_all (λ byte. nat_le 33 byte && nat_le byte 126) code

-- a size, a code, and a reference with further words
abbrev pub variable_by : ℕ → ℕ → List ℕ → ℕ → List ℕ → List Placed → Result Declared CaptureFault
variable_by at before code width reference more =
    if not (nat_le 1 width && nat_le width 65535) then Err (Token at)
    else if width == 1
    then declare at before 1 (record { code = code; names = (reference ++ joined more) ∷ [] })
    else declare at before width (record { code = code; names = bit_names reference width })

-- the words of a `$var`: type, size, code, reference and more
abbrev pub variable_of : ℕ → ℕ → List Placed → Result Declared CaptureFault
variable_of at before [] = Err (Token at)
variable_of at before (type ∷ []) = Err (Token at)
variable_of at before (type ∷ size ∷ []) = Err (Token at)
variable_of at before (type ∷ size ∷ code ∷ []) = Err (Token at)
variable_of at before (type ∷ size ∷ code ∷ reference ∷ more) =
    if not (is_code code.1) then Err (Token at)
    else if has_no_channel type.1 then Ok Nothing
    else if not (is_number size.1) then Err (Token at)
    else variable_by at before code.1 (number_after 0 size.1) reference.1 more

-- what a section declares behind others
abbrev pub declared_by : List Declared → Section → Result Declared CaptureFault
declared_by before section =
    if says (codes "$timescale") section.keyword
    then scale_of (first_at section.end_at section.words) (joined section.words)
    else if says (codes "$var") section.keyword
    then variable_of section.keyword.0 (length (channels_of before)) section.words
    else Ok Nothing
