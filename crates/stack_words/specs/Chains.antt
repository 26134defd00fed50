-- The instances of chains, or the first fault.
use Rattle.std.specs.Prelude.{ℕ, ◌==◌, Bool, List, [], ◌∷◌, ◌++◌, length, Option, Some, None}
use Rattle.std.specs.Prelude.{Result, Ok}
use Rattle.std.specs.List.{before_first, flat_map, list_any}
use Rattle.std.specs.Prelude.{if◌then◌else◌}
use Rattle.text_parts.specs.Chains.{WordText}
use Rattle.text_parts.specs.Places.{Placed, parts_between}
use Rattle.text_parts.specs.Reading.{read_parts, then_read}
use Rattle.kind_table.specs.Kinds.{Text, kind_row, kind_of}
use Rattle.kind_table.specs.declared.kinds.Kind.{Kind}
use Rattle.stack_words.specs.declared.faults.StackFault.{StackFault}
use Rattle.stack_words.specs.declared.faults.StackWhy.{StackWhy}
use Rattle.stack_words.specs.declared.faults.StackWhy.TheVariants as why
use Rattle.stack_words.specs.Instances.{Instance, Given, place_named, next_number, why_not}
use Rattle.stack_words.specs.Options.{is_colon, stack_fault, options_at}

-- what a part of a chain names: the place of an instance in the stack, and the instance where it is
-- a new one
pub record Link : Type 0 where
  pub place : ℕ
  pub new : List Instance

-- the new instances among links
abbrev pub news : List Link → List Instance
news links = flat_map (λ link. link.new) links

-- the place of the last link
abbrev pub last_place : List Link → Option ℕ
last_place [] = None
last_place (link ∷ []) = Some link.place
last_place (link ∷ next ∷ links) = last_place (next ∷ links)

-- what stands before the first `:` of an instance
abbrev pub kind_text : Text → Text
kind_text text = before_first is_colon text

-- a new instance, with the next number of its kind
abbrev pub instance_by : List Instance → Option ℕ → Kind → List Given → Instance
instance_by before parent kind options =
    record { kind = kind; number = next_number before kind; options = options; parent = parent }

-- an instance of a kind: why it can't stand here, else its options
abbrev pub placed_by : List Instance → Option ℕ → Kind → ℕ → Placed → Option StackWhy
    → Result Instance StackFault
placed_by before parent kind word part (Some why) = stack_fault word part.0 why
placed_by before parent kind word part None =
    then_read (options_at (kind_row kind).options (kind_row kind).groups word part)
    (λ options. Ok (instance_by before parent kind options))

-- an instance of the kind that was found, if one was
abbrev pub kind_at : List Instance → Option ℕ → ℕ → Placed → Option Kind
    → Result Instance StackFault
kind_at before parent word part None = stack_fault word part.0 why.Unknown
kind_at before parent word part (Some kind) =
    placed_by before parent kind word part (why_not before parent kind)

-- a new instance on its parent, behind the instances before it
abbrev pub instance_at : List Instance → Option ℕ → ℕ → Placed → Result Instance StackFault
instance_at before parent word part = kind_at before parent word part (kind_of (kind_text part.1))

-- a new instance as a link: it gets the next place
abbrev pub added_at : List Instance → Option ℕ → ℕ → Placed → Result Link StackFault
added_at before parent word part =
    then_read (instance_at before parent word part)
    (λ instance. Ok (record { place = length before; new = instance ∷ [] }))

-- an earlier instance as a link, if there is one
abbrev pub earlier_at : ℕ → Placed → Option ℕ → Result Link StackFault
earlier_at word part None = stack_fault word part.0 why.NoParent
earlier_at word part (Some place) = Ok (record { place = place; new = [] })

-- a hyphen
abbrev pub is_dash : ℕ → Bool
is_dash byte = byte == 45

-- the head of a chain: where it has a hyphen before its first `:`, the name of an earlier instance;
-- else an instance on samples
abbrev pub head_at : List Instance → ℕ → Placed → Result Link StackFault
head_at before word part =
    if list_any is_dash (kind_text part.1) then earlier_at word part (place_named before part.1)
    else added_at before None word part

-- a part of a chain: its head, or an instance on a parent
abbrev pub part_at : List Instance → Option ℕ → ℕ → Placed → Result Link StackFault
part_at before None word part = head_at before word part
part_at before (Some parent) word part = added_at before (Some parent) word part

-- a part of a chain, behind the instances of earlier chains and the links before it: the head, or
-- an instance on that of the last link
abbrev pub link_at : List Instance → ℕ → List Link → Placed → Result Link StackFault
link_at earlier word links part = part_at (earlier ++ news links) (last_place links) word part

-- the new instances of a chain, behind those of earlier chains
abbrev pub chain_by : List Instance → WordText → Result (List Instance) StackFault
chain_by earlier chain =
    then_read (read_parts (link_at earlier chain.word) [] (parts_between 44 chain.text))
    (λ links. Ok (news links))

-- the instances of chains, one chain behind another
abbrev pub all_of : List (List Instance) → List Instance
all_of lists = flat_map (λ list. list) lists

-- a chain behind others
abbrev pub chain_at : List (List Instance) → WordText → Result (List Instance) StackFault
chain_at before chain = chain_by (all_of before) chain

-- the instances of chains, or the first fault
abbrev pub instances_of : List WordText → Result (List Instance) StackFault
instances_of chains = then_read (read_parts chain_at [] chains) (λ lists. Ok (all_of lists))
