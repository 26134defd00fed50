-- How a decoder is opened, and what it has consumed.
use Rattle.std.specs.Prelude.{ℕ, ◌≡◌, List, [], Option, Some, None, Result, Ok, Err}
use Rattle.decoder_core.specs.Inputs.{Item}
use Rattle.decoder_core.specs.declared.faults.OptFault.{OptFault}
use Rattle.la_base.specs.declared.samples.Rate.{Rate}
use Rattle.kind_table.specs.declared.kinds.Kind.{Kind}
use Rattle.kind_table.specs.declared.values.OptValues.{OptValues}
use Rattle.decoder_set.specs.declared.setup.Setup.{Setup}
use Rattle.decoder_set.specs.declared.any.AnyDecoder.{AnyDecoder}
use Rattle.decoder_set.specs.declared.any_machine.AnyMachine.{AnyMachine}
use Rattle.decoder_set.specs.Faults.{IsOpened, open_fault}
use Rattle.decoder_set.specs.Owning.{IsOwn}
use Rattle.decoder_set.specs.Views.{Parts, kind_in, parts_of, view_in, view_of}

-- a machine of these parts, with these values at this rate, has consumed this input
pub record ConsumedIn (values : List (Option ℕ)) (rate : Rate) (parts : Parts)
    (input : List Item) : Type 0 where
  pub own : (view_in parts.0 parts.1).own values rate
  pub consumed : (view_in parts.0 parts.1).consumed input

abbrev pub ConsumedAs : List (Option ℕ) → Rate → AnyMachine → List Item → Type 0
ConsumedAs values rate machine input = ConsumedIn values rate (parts_of machine) input

-- a decoder of this kind, with these values at this rate, has consumed this input
abbrev pub Consumed : Kind → List (Option ℕ) → Rate → AnyMachine → List Item → Type 0
Consumed kind values rate machine input =
    (kind ≡ kind_in machine) × ConsumedAs values rate machine input

-- behind an input that it has consumed, no item of `more` is a stop of its wait
abbrev pub SleepsBy : AnyMachine → List Item → List Item → Type 0
SleepsBy machine input more = (view_of machine).sleeps input more

abbrev pub IsAsleep : AnyDecoder → List Item → List Item → Type 0
IsAsleep decoder input more = SleepsBy decoder.machine input more

-- its kind, options and rate
abbrev pub setup_of : AnyDecoder → Setup
setup_of decoder = decoder.setup

-- it is a setup that a decoder can be opened with
pub opened_by : (decoder : AnyDecoder) → IsOpened (setup_of decoder)
opened_by decoder = decoder.opened

-- its machine is of the kind that its setup names, with the setup's options and rate
abbrev pub IsOfSetup : AnyDecoder → Type 0
IsOfSetup decoder = IsOwn decoder.setup decoder.machine

-- a decoder has consumed this input
abbrev pub HasConsumed : AnyDecoder → List Item → Type 0
HasConsumed decoder input =
    Consumed decoder.setup.kind decoder.setup.values.given decoder.setup.rate decoder.machine input

-- a decoder of this kind, values and rate that has consumed nothing, or its fault
abbrev pub Opens : ℕ → Kind → OptValues → Rate → Result AnyDecoder OptFault → Type 0
Opens bits kind values rate (Ok decoder) =
    (open_fault bits kind values.given rate ≡ None)
    × (setup_of decoder ≡ record { kind = kind; values = values; rate = rate })
    × HasConsumed decoder []
Opens bits kind values rate (Err why) = open_fault bits kind values.given rate ≡ Some why
