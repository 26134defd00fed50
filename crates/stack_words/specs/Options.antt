-- The options of an instance.
use Rattle.std.specs.Prelude.{ℕ, ◌+◌, ◌==◌, ◌||◌, ◌&&◌, Bool, false, not, List, [], length, Option}
use Rattle.std.specs.Prelude.{Some, None, is_some, Result, Ok, Err, if◌then◌else◌}
use Rattle.std.specs.List.{position, position_or_len, before_first, after_first, slice_split}
use Rattle.std.specs.List.{list_all, enumerate_from, find}
use Rattle.std.specs.Str.{bytes_eq}
use Rattle.text_parts.specs.Numbers.{number_in}
use Rattle.text_parts.specs.Places.{Placed, placed_from}
use Rattle.text_parts.specs.Reading.{read_parts, then_read}
use Rattle.text_parts.specs.declared.numbers.NumberWhy.{NumberWhy}
use Rattle.text_parts.specs.declared.numbers.NumberWhy.TheVariants as number
use Rattle.kind_table.specs.Kinds.{Text, Form, OptionRow, Pin, Number, Choice}
use Rattle.kind_table.specs.Values.{has_groups}
use Rattle.stack_words.specs.declared.faults.StackFault.{StackFault}
use Rattle.stack_words.specs.declared.faults.StackWhy.{StackWhy}
use Rattle.stack_words.specs.declared.faults.StackWhy.TheVariants as why
use Rattle.stack_words.specs.Instances.{Given, Value, given_at}
use Rattle.stack_words.specs.Instances as value

-- what stands between the name of an option and its value
abbrev pub is_equals : ℕ → Bool
is_equals byte = byte == 61

-- what stands between options
abbrev pub is_colon : ℕ → Bool
is_colon byte = byte == 58

-- a fault at a place of a word
abbrev pub stack_fault : {X : Type 0} → ℕ → ℕ → StackWhy → Result X StackFault
stack_fault word at why = Err (record { word = word; at = at; why = why })

-- what was judged, with its fault at a place of a word
abbrev pub at_place : {X : Type 0} → ℕ → ℕ → Result X StackWhy → Result X StackFault
at_place word at (Ok x) = Ok x
at_place word at (Err why) = stack_fault word at why

-- a number in its range, or why it is none
abbrev pub numeric : Result ℕ NumberWhy → Result Value StackWhy
numeric (Ok n) = Ok (value.Number n)
numeric (Err number.Value) = Err why.Value
numeric (Err number.Range) = Err why.Range

-- the place of a word, if there is one
abbrev pub chosen : Option ℕ → Result Value StackWhy
chosen (Some place) = Ok (value.Number place)
chosen None = Err why.Value

-- the reference of a channel
abbrev pub read_channel : Text → Result Value StackWhy
read_channel text = if length text == 0 then Err why.Value else Ok (value.Channel text)

-- the value that a text gives an option: a reference of a channel, which isn't empty; a number in
-- range; one of the words
abbrev pub value_of : Form → Text → Result Value StackWhy
value_of (Pin required) text = read_channel text
value_of (Number least most usual) text = numeric (number_in least most text)
value_of (Choice words) text = chosen (position (λ word. bytes_eq word text) words)

-- the option of a name, with its row
abbrev pub option_named : List OptionRow → Text → Option (ℕ × OptionRow)
option_named rows name = find (λ p. bytes_eq p.1.name name) (enumerate_from 0 rows)

-- a value, with its row
abbrev pub with_row : ℕ → Result Value StackWhy → Result Given StackWhy
with_row row (Ok value) = Ok (record { row = row; value = value })
with_row row (Err why) = Err why

-- a value for a row that wasn't given one before
abbrev pub row_at : List Given → ℕ → Form → Text → Result Given StackWhy
row_at before row form text =
    if is_some (given_at before row) then Err why.Repeat else with_row row (value_of form text)

-- a value for the option that was found, if one was
abbrev pub named_at : List Given → Option (ℕ × OptionRow) → Text → Result Given StackWhy
named_at before None text = Err why.Unknown
named_at before (Some p) text = row_at before p.0 p.1.form text

-- an option, behind those before it: it has an `=`, a name that the kind has and that wasn't given
-- before, and a good value
abbrev pub option_of : List OptionRow → List Given → Text → Result Given StackWhy
option_of rows before text =
    if position_or_len is_equals text == length text then Err why.Value
    else named_at before (option_named rows (before_first is_equals text))
    (after_first is_equals text)

-- an option at its place
abbrev pub option_at : List OptionRow → ℕ → List Given → Placed → Result Given StackFault
option_at rows word before part = at_place word part.0 (option_of rows before part.1)

-- options between colons, from a place of a word on
abbrev pub option_list : List OptionRow → ℕ → ℕ → Text → Result (List Given) StackFault
option_list rows word at text =
    read_parts (option_at rows word) [] (placed_from at (slice_split is_colon text))

-- the options of an instance that begins at a place: those behind its first `:`, if it has one
abbrev pub options_behind : List OptionRow → ℕ → ℕ → Text → Result (List Given) StackFault
options_behind rows word at text =
    if position_or_len is_colon text == length text then Ok []
    else option_list rows word (at + length (before_first is_colon text) + 1)
    (after_first is_colon text)

-- whether an option has to be given
abbrev pub needs : Form → Bool
needs (Pin required) = required
needs (Number least most usual) = false
needs (Choice words) = false

-- all that has to be given is
abbrev pub have_all : List OptionRow → List Given → Bool
have_all rows given =
    list_all (λ p. not (needs p.1.form) || is_some (given_at given p.0)) (enumerate_from 0 rows)

-- a channel that is required isn't given, or none of a group of which one is
abbrev pub is_missing : List OptionRow → List (List ℕ) → List Given → Bool
is_missing rows groups given =
    not (have_all rows given && has_groups (λ row. is_some (given_at given row)) groups)

-- options, none of which is missing
abbrev pub unless_missing : List OptionRow → List (List ℕ) → ℕ → ℕ → List Given
    → Result (List Given) StackFault
unless_missing rows groups word at given =
    if is_missing rows groups given then stack_fault word at why.Missing else Ok given

-- the options of an instance that begins at a place, in their order, none of which is missing; or
-- the first fault
abbrev pub options_at : List OptionRow → List (List ℕ) → ℕ → Placed → Result (List Given) StackFault
options_at rows groups word part =
    then_read (options_behind rows word part.0 part.1) (unless_missing rows groups word part.0)
