-- What a machine of one kind owes a decoder of any kind that holds it.
use Rattle.std.specs.Prelude.{ℕ, ◌≡◌, ◌≤◌, Bool, true, false, List, Option}
use Rattle.la_base.specs.declared.samples.Rate.{Rate}
use Rattle.la_base.specs.declared.wires.Out.{Out}
use Rattle.la_base.specs.declared.samples.Run.{Run}
use Rattle.la_base.specs.declared.wires.Feed.{Feed}
use Rattle.decoder_core.specs.Driving.{ReachesStop, Steps, StepsRuns, StopsFirst}
use Rattle.decoder_core.specs.Inputs.{Item}
use Rattle.decoder_core.specs.Packets.{IsFloorOver}
use Rattle.decoder_set.specs.declared.any_machine.AnyMachine.{AnyMachine}
use Rattle.kind_table.specs.declared.kinds.Kind.{Kind}
use Rattle.decoder_set.specs.declared.setup.Setup.{Setup}
use Rattle.decoder_set.specs.Opening.{Consumed, SleepsBy}
use Rattle.decoder_set.specs.Owning.{IsOwn}
use Rattle.decoder_set.specs.Setups.{near_by, outs_by}
use Rattle.decoder_set.specs.Saving.{SavedBy, Savers}
use Rattle.decoder_set.specs.Views.{kind_in, parts_of, view_of}

-- what is seen of a machine is this
pub record Shows (machine : AnyMachine) (kind : Kind) (own : List (Option ℕ) → Rate → Type 0)
    (consumed : List Item → Type 0) (sleeps : List Item → List Item → Type 0) : Type 0 where
  pub kind_is : kind_in machine ≡ kind
  pub own_of : (values : List (Option ℕ)) (rate : Rate) → (view_of machine).own values rate
      → own values rate
  pub own_as : (values : List (Option ℕ)) (rate : Rate) → own values rate
      → (view_of machine).own values rate
  pub consumed_of : (input : List Item) → (view_of machine).consumed input → consumed input
  pub consumed_as : (input : List Item) → consumed input → (view_of machine).consumed input
  pub awake : (input more : List Item) → (view_of machine).sleeps input more → sleeps input more
  pub asleep : (input more : List Item) → sleeps input more → (view_of machine).sleeps input more

-- each machine of its kind holds what one of its type does; a decoder sees of it what it says
-- itself; what it gives is what values and rate give its kind where its setup is theirs; and they
-- mean one setup
pub record IsMember {M S : Type 0} (kind : Kind) (held : M → AnyMachine)
    (own : List (Option ℕ) → Rate → S → Type 0) (setup : M → S)
    (outputs : S → List Item → List Out) (near : S → List Item → ℕ → ℕ)
    (consumed : M → List Item → Type 0) (sleeps : M → List Item → List Item → Type 0)
    : Type 0 where
  pub found : (machine : AnyMachine) → kind ≡ kind_in machine
      → (own : M) × (parts_of machine ≡ parts_of (held own))
  pub shows : (machine : M)
      → Shows (held machine) kind (λ values rate. own values rate (setup machine))
      (consumed machine) (sleeps machine)
  pub outs_are : (values : List (Option ℕ)) (rate : Rate) (a : S) → own values rate a
      → (input : List Item) → outs_by kind values rate input ≡ outputs a input
  pub near_is : (values : List (Option ℕ)) (rate : Rate) (a : S) → own values rate a
      → (input : List Item) (above : ℕ)
      → near_by kind values rate input above ≡ near a input above
  pub one_setup : (values : List (Option ℕ)) (rate : Rate) (a b : S) → own values rate a
      → own values rate b → a ≡ b

-- a machine became another one by a step: for each kind, values and rate it has consumed what the
-- step took, and gives what that adds; and it is of its setup as before
pub record Stepped (old new : AnyMachine) (feed : Feed) (left : Option Feed) (into : List Out)
    : Type 0 where
  pub own : (setup : Setup) → IsOwn setup old → IsOwn setup new
  pub steps : (kind : Kind) (values : List (Option ℕ)) (rate : Rate)
      → Steps (λ input. Consumed kind values rate old input)
      (λ input. Consumed kind values rate new input) (λ input. outs_by kind values rate input)
      feed left into
  pub stops : (kind : Kind) (values : List (Option ℕ)) (rate : Rate)
      → StopsFirst (λ input. Consumed kind values rate old input)
      (λ input more. SleepsBy old input more) feed left

-- the same of a step that may go on after the first stop
pub record SteppedRun (old new : AnyMachine) (feed : Feed) (left : Option Feed) (into : List Out)
    : Type 0 where
  pub own : (setup : Setup) → IsOwn setup old → IsOwn setup new
  pub steps : (kind : Kind) (values : List (Option ℕ)) (rate : Rate)
      → Steps (λ input. Consumed kind values rate old input)
      (λ input. Consumed kind values rate new input) (λ input. outs_by kind values rate input)
      feed left into
  pub stops : (kind : Kind) (values : List (Option ℕ)) (rate : Rate)
      → ReachesStop (λ input. Consumed kind values rate old input)
      (λ input more. SleepsBy old input more) feed left

-- and of samples that were taken at once
pub record SteppedRuns (old new : AnyMachine) (samples : List ℕ) (rest : Option Run)
    (into : List Out) : Type 0 where
  pub own : (setup : Setup) → IsOwn setup old → IsOwn setup new
  pub steps : (kind : Kind) (values : List (Option ℕ)) (rate : Rate)
      → StepsRuns (λ input. Consumed kind values rate old input)
      (λ input. Consumed kind values rate new input) (λ input. outs_by kind values rate input)
      samples rest into

-- a floor of all that it gives later, where all packets that come start at `above` or later, and
-- no earlier than what has begun
pub record Floored (machine : AnyMachine) (above floor : ℕ) : Type 0 where
  pub below : (kind : Kind) (values : List (Option ℕ)) (rate : Rate) (input : List Item)
      → Consumed kind values rate machine input
      → IsFloorOver above (outs_by kind values rate) input floor
  pub near : (kind : Kind) (values : List (Option ℕ)) (rate : Rate) (input : List Item)
      → Consumed kind values rate machine input → near_by kind values rate input above ≤ floor

-- a machine took the state that bytes tell, or stayed as it was where none of its kind and options
-- saves them: it has then consumed what each of these has consumed that does
pub record Loaded (by : Savers) (old new : AnyMachine) (taken : Bool) (bytes : List ℕ) : Type 0 where
  pub own : (setup : Setup) → IsOwn setup old → IsOwn setup new
  pub loaded : taken ≡ true → SavedBy by new bytes
  pub same : taken ≡ false → new ≡ old
  pub none : taken ≡ false → (setup : Setup) (other : AnyMachine) → IsOwn setup old
      → IsOwn setup other → ¬ SavedBy by other bytes
  pub stands : taken ≡ true → (setup : Setup) (other : AnyMachine) (input : List Item)
      → IsOwn setup old → SavedBy by other bytes
      → Consumed setup.kind setup.values.given setup.rate other input
      → Consumed setup.kind setup.values.given setup.rate new input
