-- What the words of a command line say: its uses of options, its other words, or the first fault.
use Rattle.std.specs.Prelude.{ℕ, Bool, true, false, not, ◌+◌, ◌==◌, ◌&&◌, nat_le, nat_lt, List, []}
use Rattle.std.specs.Prelude.{◌∷◌, length, Option, Some, None, Result, Ok, Err, if◌then◌else◌}
use Rattle.std.specs.Prelude.{is_some}
use Rattle.std.specs.List.{list_any, filter}
use Rattle.std.specs.Str.{bytes_eq}
use Rattle.text_parts.specs.Reading.{read_parts}
use Rattle.text_parts.specs.Numbers.{number_in}
use Rattle.text_parts.specs.declared.numbers.NumberWhy.{NumberWhy}
use Rattle.text_parts.specs.declared.numbers.NumberWhy.TheVariants as number
use Rattle.words.specs.Lexer.{Text, begins_option, long_of}
use Rattle.words.specs.Options.{ValueKind, OneOf, Number, Ratio, Free, name_of, row}
use Rattle.words.specs.Rates.{rate_in}
use Rattle.words.specs.declared.options.Name.{Name}
use Rattle.words.specs.declared.kinds.WordWhy.{WordWhy}
use Rattle.words.specs.declared.kinds.WordWhy.TheVariants as why
use Rattle.words.specs.declared.kinds.WordFault.{WordFault}

-- a word with its number, and the next word where that may be its value
pub record Part : Type 0 where
  pub number : ℕ
  pub word : Text
  pub next : Option Text

-- an option whose value isn't in the word itself
abbrev pub waits_for : Option (Text × Option Text) → Bool
waits_for None = false
waits_for (Some (name, None)) = true
waits_for (Some (name, Some value)) = false

-- its value is the next word, as long as that is no option
abbrev pub takes_next : Text → Text → Bool
takes_next word next = waits_for (long_of word) && not (begins_option next)

-- the words, each with its number, and an option with the word that holds its value
abbrev pub parts_from : ℕ → List Text → List Part
parts_from number [] = []
parts_from number (word ∷ []) = record { number = number; word = word; next = None } ∷ []
parts_from number (word ∷ next ∷ rest) = if takes_next word next
    then record { number = number; word = word; next = Some next } ∷ parts_from (number + 2) rest
    else record { number = number; word = word; next = None }
    ∷ parts_from (number + 1) (next ∷ rest)

-- the value of a first word where the next holds it, and the words behind
abbrev pub value_behind : Text → List Text → Option Text × List Text
value_behind word [] = (None, [])
value_behind word (next ∷ rest) =
    if takes_next word next then (Some next, rest) else (None, next ∷ rest)

-- the number of the first word behind a word and its value
abbrev pub number_behind : ℕ → Option Text → ℕ
number_behind number None = number + 1
number_behind number (Some next) = number + 2

-- an option's value, or a word that is no option, with the number of the word that holds it
pub record Used : Type 0 where
  pub name : Option Name
  pub word : ℕ
  pub text : Text

-- it is this option
abbrev pub is_of : Name → Option Name → Bool
is_of name None = false
is_of name (Some other) = bytes_eq (row other).name (row name).name

-- the option is among the uses
abbrev pub is_given : Name → List Used → Bool
is_given name uses = list_any (λ u. is_of name u.name) uses

-- a fault of a word, at its first byte
abbrev pub word_fault : {X : Type 0} → ℕ → WordWhy → Result X WordFault
word_fault number why = Err (record { word = number; at = 0; why = why })

-- the fault, if there is one
abbrev pub or_fault : {X : Type 0} → ℕ → Option WordWhy → Result X WordFault → Result X WordFault
or_fault number None good = good
or_fault number (Some why) good = word_fault number why

-- the rules for every word
abbrev pub why_word : ℕ → Text → Option WordWhy
why_word number word = if nat_le 256 number then Some why.Many
    else if nat_lt 4096 (length word) then Some why.Long
    else if length word == 0 then Some why.Empty
    else None

-- what is wrong with a number
abbrev pub why_number : {X : Type 0} → Result X NumberWhy → Option WordWhy
why_number (Ok n) = None
why_number (Err number.Value) = Some why.Value
why_number (Err number.Range) = Some why.Range

-- the rules for a value, by what its option takes
abbrev pub why_value : ValueKind → Text → Option WordWhy
why_value (OneOf choices) value =
    if list_any (λ choice. bytes_eq choice value) choices then None else Some why.Value
why_value (Number least most) value = why_number (number_in least most value)
why_value Ratio value = why_number (rate_in value)
why_value Free value = None

-- a value, if it keeps to the rules of its option, with the number of the word that holds it
abbrev pub judged : Name → ℕ → Text → Result Used WordFault
judged name number value =
    or_fault number (why_value (row name).takes value)
    (Ok (record { name = Some name; word = number; text = value }))

-- the value of an option, behind its `=` or in the next word
abbrev pub value_at : Name → ℕ → Option Text → Option Text → Result Used WordFault
value_at name number (Some value) next =
    if length value == 0 then word_fault number why.Empty else judged name number value
value_at name number None None = word_fault number why.NoValue
value_at name number None (Some next) =
    or_fault (number + 1) (why_word (number + 1) next) (judged name (number + 1) next)

-- the option that a word names, if it wasn't given before
abbrev pub named_at : List Used → Part → Option Name → Option Text → Result Used WordFault
named_at before part None value = word_fault part.number why.Unknown
named_at before part (Some name) value =
    if is_given name before then word_fault part.number why.Repeat
    else value_at name part.number value part.next

-- a word that begins with a hyphen
abbrev pub option_at : List Used → Part → Option (Text × Option Text) → Result Used WordFault
option_at before part None = word_fault part.number why.Unknown
option_at before part (Some p) = named_at before part (name_of p.0) p.1

-- one part, behind those before it
abbrev pub use_at : List Used → Part → Result Used WordFault
use_at before part = or_fault part.number (why_word part.number part.word)
    (if begins_option part.word then option_at before part (long_of part.word)
    else Ok (record { name = None; word = part.number; text = part.word }))

-- the uses in the words, or the first fault of a word
abbrev pub uses_of : List Text → Result (List Used) WordFault
uses_of words = read_parts use_at [] (parts_from 0 words)

-- the words that are no options
abbrev pub is_chain : Used → Bool
is_chain u = not (is_some u.name)

abbrev pub chains_of : List Used → List Used
chains_of uses = filter is_chain uses
