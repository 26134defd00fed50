-- What holds of the instances of every stack that is read.
use Rattle.std.specs.Prelude.{ℕ, ◌≡◌, ◌<◌, ◌≤◌, Bool, true, false, not, ◌&&◌, nat_le, nat_lt, List}
use Rattle.std.specs.Prelude.{[], ◌∷◌, ◌++◌, length, slice_get, Option, Some, None, is_some}
use Rattle.std.specs.List.{list_all, enumerate_from}
use Rattle.la_base.specs.declared.wires.Wire.TheVariants.{Logic}
use Rattle.la_base.specs.Kinds.{same_wire}
use Rattle.kind_table.specs.Kinds.{Form, OptionRow, Row, Pin, Number, Choice, kind_row}
use Rattle.kind_table.specs.Values.{has_groups}
use Rattle.kind_table.specs.declared.kinds.Kind.{Kind}
use Rattle.stack_words.specs.Instances.{Value, Channel, Given, Instance, given_at, output_at}
use Rattle.stack_words.specs.Instances.{stands_on, most_instances}
use Rattle.stack_words.specs.Instances as value

-- an option takes what it is given, or nothing
abbrev pub fits : Form → Option Value → Bool
fits (Pin required) None = not required
fits (Pin required) (Some (Channel reference)) = true
fits (Pin required) (Some (value.Number number)) = false
fits (Number least most usual) None = true
fits (Number least most usual) (Some (Channel reference)) = false
fits (Number least most usual) (Some (value.Number number)) =
    nat_le least number && nat_le number most
fits (Choice words) None = true
fits (Choice words) (Some (Channel reference)) = false
fits (Choice words) (Some (value.Number place)) = nat_lt place (length words)

-- each option takes what it is given
abbrev pub each_fits : List OptionRow → List Given → Bool
each_fits rows given = list_all (λ p. fits p.1.form (given_at given p.0)) (enumerate_from 0 rows)

-- each option of a kind takes what it is given, and of each group one is given
abbrev pub options_fit : Row → List Given → Bool
options_fit row given =
    each_fits row.options given && has_groups (λ place. is_some (given_at given place)) row.groups

-- a kind stands on an instance before it, which gives what it wants; or it reads samples
abbrev pub parent_fits : List Instance → Kind → Option ℕ → Bool
parent_fits before kind None = same_wire Logic (kind_row kind).input
parent_fits before kind (Some parent) =
    nat_lt parent (length before) && stands_on (slice_get before parent) kind

-- an instance is right behind those before it
abbrev pub is_right : List Instance → Instance → Bool
is_right before instance =
    parent_fits before instance.kind instance.parent && options_fit
    (kind_row instance.kind) instance.options

-- each instance is right behind those before it
abbrev pub right_from : List Instance → List Instance → Bool
right_from before [] = true
right_from before (instance ∷ rest) =
    is_right before instance && right_from (before ++ instance ∷ []) rest

-- there are no more than `most_instances`, and each is right
abbrev pub is_sound : List Instance → Bool
is_sound instances = nat_le (length instances) most_instances && right_from [] instances

-- an instance at a place stands on none and reads samples, or on an earlier one that gives what it
-- reads
abbrev pub HasParent : List Instance → ℕ → Instance → Option ℕ → Type 0
HasParent instances place instance None = (kind_row instance.kind).input ≡ Logic
HasParent instances place instance (Some parent) =
    (parent < place) × (output_at instances parent ≡ (kind_row instance.kind).input)

-- instances as a forest: no more than `most_instances`, and each behind its parent
pub record IsForest (instances : List Instance) : Type 0 where
  pub few : length instances ≤ most_instances
  pub parents : (place : ℕ) (instance : Instance) → slice_get instances place ≡ Some instance
      → HasParent instances place instance instance.parent
