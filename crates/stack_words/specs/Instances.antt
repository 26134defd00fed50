-- Instances of decoders, their names, and what they stand on.
use Rattle.std.specs.Prelude.{ℕ, ◌+◌, ◌==◌, ◌&&◌, Bool, false, List, ◌++◌, length, slice_get}
use Rattle.std.specs.Prelude.{nat_le, Option, Some, None, option_map, if◌then◌else◌, codes}
use Rattle.std.specs.Prelude.{count_by}
use Rattle.std.specs.Fmt.{decimal}
use Rattle.std.specs.List.{find, list_all, position}
use Rattle.std.specs.Str.{bytes_eq}
use Rattle.la_base.specs.declared.wires.Wire.{Wire}
use Rattle.la_base.specs.declared.wires.Wire.TheVariants.{Logic, Nothing}
use Rattle.la_base.specs.Kinds.{same_wire}
use Rattle.kind_table.specs.Kinds.{OptionRow, Text, kind_row}
use Rattle.kind_table.specs.Values.{number_by}
use Rattle.kind_table.specs.declared.kinds.Asked.{Asked}
use Rattle.kind_table.specs.declared.kinds.Kind.{Kind}
use Rattle.stack_words.specs.declared.faults.StackWhy.{StackWhy}
use Rattle.stack_words.specs.declared.faults.StackWhy.TheVariants as why

-- what an option is given: the reference of a channel, or a number, which for a choice is the place
-- of a word
pub data Value : Type 0 where
  Channel : Text → Value
  Number : ℕ → Value

-- an option that is given: its row among the options of the kind, and its value
pub record Given : Type 0 where
  pub row : ℕ
  pub value : Value

-- a decoder in a stack: its kind, its number among those of the kind, the options that are given,
-- and its parent's place
pub record Instance : Type 0 where
  pub kind : Kind
  pub number : ℕ
  pub options : List Given
  pub parent : Option ℕ

-- the name of an instance: its kind, a hyphen, and its number within the kind
abbrev pub name_of : Instance → Text
name_of instance = (kind_row instance.kind).name ++ codes "-" ++ decimal instance.number

-- the place of the instance of a name
abbrev pub place_named : List Instance → Text → Option ℕ
place_named instances name = position (λ instance. bytes_eq (name_of instance) name) instances

-- two kinds have one name
abbrev pub same_kind : Kind → Kind → Bool
same_kind one other = bytes_eq (kind_row one).name (kind_row other).name

-- the number of the next instance of a kind, counted from 1
abbrev pub next_number : List Instance → Kind → ℕ
next_number before kind = count_by (λ instance. same_kind instance.kind kind) before + 1

-- the wire that an instance gives, if there is one
abbrev pub output_of : Option Instance → Wire
output_of None = Nothing
output_of (Some instance) = (kind_row instance.kind).output

-- the wire that the instance at a place gives
abbrev pub output_at : List Instance → ℕ → Wire
output_at before place = output_of (slice_get before place)

-- what a row is given, if anything
abbrev pub given_at : List Given → ℕ → Option Value
given_at options row = option_map (λ given. given.value) (find (λ given. given.row == row) options)

-- the number among what is given
abbrev pub number_in_value : Option Value → Option ℕ
number_in_value None = None
number_in_value (Some (Channel reference)) = None
number_in_value (Some (Number number)) = Some number

-- the number that the option of a row has: the one that is given, else its usual one
abbrev pub number_given : List OptionRow → List Given → ℕ → ℕ
number_given rows options row = number_by (slice_get rows row) (number_in_value (given_at options row))

-- options have the numbers that are asked for
abbrev pub has_numbers : List OptionRow → List Given → List Asked → Bool
has_numbers rows options asked = list_all (λ a. number_given rows options a.row == a.number) asked

-- a kind stands on an instance, if there is one: it wants the wire that this gives, and the numbers
-- that its options have
abbrev pub stands_on : Option Instance → Kind → Bool
stands_on None kind = false
stands_on (Some parent) kind =
    same_wire (kind_row parent.kind).output (kind_row kind).input && has_numbers
    (kind_row parent.kind).options parent.options (kind_row kind).parent

-- the most instances of a stack
abbrev pub most_instances : ℕ
most_instances = 24

-- Many where there are already `most_instances`, else what follows
abbrev pub unless_full : List Instance → Option StackWhy → Option StackWhy
unless_full before next = if nat_le most_instances (length before) then Some why.Many else next

-- why a kind can't stand here: at the head of a chain it reads samples; there are no more than
-- `most_instances`; it stands on what it wants
abbrev pub why_not : List Instance → Option ℕ → Kind → Option StackWhy
why_not before None kind =
    if same_wire Logic (kind_row kind).input then unless_full before None else Some why.NoParent
why_not before (Some parent) kind =
    unless_full before
    (if stands_on (slice_get before parent) kind then None else Some why.Mismatch)
