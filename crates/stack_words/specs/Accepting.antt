-- The stack that words make, or the first fault.
use Rattle.std.specs.Prelude.{ℕ, ◌+◌, ◌==◌, Bool, true, List, [], length, min, slice_get, Option}
use Rattle.std.specs.Prelude.{Some, None, Result, Ok, Err, if◌then◌else◌, codes}
use Rattle.std.specs.List.{before_first, after_first, list_any}
use Rattle.std.specs.Str.{bytes_eq}
use Rattle.text_parts.specs.Chains.{WordText}
use Rattle.text_parts.specs.Places.{Placed, parts_between}
use Rattle.text_parts.specs.Reading.{read_parts, then_read}
use Rattle.kind_table.specs.Kinds.{Text, class_of}
use Rattle.stack_words.specs.declared.faults.StackFault.{StackFault}
use Rattle.stack_words.specs.declared.faults.StackWhy.TheVariants as why
use Rattle.stack_words.specs.Instances.{Instance, place_named}
use Rattle.stack_words.specs.Options.{is_colon, stack_fault}
use Rattle.stack_words.specs.Chains.{instances_of}

-- a stack: its instances; the places of those that are shown, none for all; the instance and class
-- whose binary data is wanted
pub record Accepted : Type 0 where
  pub instances : List Instance
  pub shown : Option (List ℕ)
  pub binary : Option (ℕ × ℕ)

-- whether an instance is shown
abbrev pub is_shown : Option (List ℕ) → ℕ → Bool
is_shown None instance = true
is_shown (Some places) instance = list_any (λ place. place == instance) places

-- what a name stands for, or Unknown at its place
abbrev pub known : {X : Type 0} → ℕ → ℕ → Option X → Result X StackFault
known word at None = stack_fault word at why.Unknown
known word at (Some x) = Ok x

-- one name of those to be shown
abbrev pub shown_at : List Instance → ℕ → List ℕ → Placed → Result ℕ StackFault
shown_at instances word before part = known word part.0 (place_named instances part.1)

-- the places of the instances whose names stand between commas
abbrev pub names_of : List Instance → ℕ → Text → Result (List ℕ) StackFault
names_of instances word text = read_parts (shown_at instances word) [] (parts_between 44 text)

-- what was read, as something that is there
abbrev pub some_of : {X : Type 0} → Result X StackFault → Result (Option X) StackFault
some_of (Ok x) = Ok (Some x)
some_of (Err fault) = Err fault

-- the instances that are shown: all where no word says which, or the word is `all`; else those
-- whose names stand between commas
abbrev pub shown_of : List Instance → Option WordText → Result (Option (List ℕ)) StackFault
shown_of instances None = Ok None
shown_of instances (Some show) =
    if bytes_eq show.text (codes "all") then Ok None
    else some_of (names_of instances show.word show.text)

-- the class of this name that an instance has
abbrev pub class_in : Option Instance → Text → Option ℕ
class_in None name = None
class_in (Some instance) name = class_of instance.kind name

-- the place of a class's name: behind the `:`, or the end where there is none
abbrev pub class_place : Text → ℕ
class_place text = min (length (before_first is_colon text) + 1) (length text)

-- the class that a text names of the instance at a place
abbrev pub class_at : List Instance → ℕ → Text → ℕ → Result (ℕ × ℕ) StackFault
class_at instances word text place =
    then_read
    (known word (class_place text)
    (class_in (slice_get instances place) (after_first is_colon text))) (λ class. Ok (place, class))

-- an instance and one of its classes, by their names with `:` between them
abbrev pub class_of_name : List Instance → ℕ → Text → Result (ℕ × ℕ) StackFault
class_of_name instances word text =
    then_read (known word 0 (place_named instances (before_first is_colon text)))
    (class_at instances word text)

-- the binary data that is wanted, if any is
abbrev pub binary_of : List Instance → Option WordText → Result (Option (ℕ × ℕ)) StackFault
binary_of instances None = Ok None
binary_of instances (Some binary) = some_of (class_of_name instances binary.word binary.text)

-- the stack of chains, then what is shown, then the binary data; or the first fault in this order
abbrev pub stack_of : List WordText → Option WordText → Option WordText → Result Accepted StackFault
stack_of chains show binary =
    then_read (instances_of chains) (λ instances.
    then_read (shown_of instances show) (λ shown.
    then_read (binary_of instances binary) (λ binary.
    Ok (record { instances = instances; shown = shown; binary = binary }))))
