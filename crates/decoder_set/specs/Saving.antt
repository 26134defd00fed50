-- What a decoder of any kind saves: what its machine saves.
use Rattle.std.specs.Prelude.{ℕ, ◌↔◌, List}
use Rattle.decoder_set.specs.declared.any_machine.AnyMachine.{AnyMachine}
use Rattle.kind_table.specs.declared.kinds.Kind.{Kind}
use Rattle.decoder_set.specs.Views.{Inner, inner, kind_in}

-- which bytes a machine of each kind saves
abbrev pub Savers : Type 1
Savers = (kind : Kind) → Inner kind → List ℕ → Type 0

-- a machine saves these bytes
pub record SavedBy (by : Savers) (machine : AnyMachine) (bytes : List ℕ) : Type 0 where
  pub its : by (kind_in machine) (inner machine) bytes

-- what machines save that are of a kind is what the table says of it
abbrev pub SavesAs : {M : Type 0} → Savers → (M → AnyMachine) → (M → List ℕ → Type 0) → Type 0
SavesAs {M} by held saves =
    (machine : M) (bytes : List ℕ) → SavedBy by (held machine) bytes ↔ saves machine bytes
