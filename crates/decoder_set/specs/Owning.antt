-- A machine is of a kind, and has its options.
use Rattle.std.specs.Prelude.{ℕ, ◌≡◌, List, Option}
use Rattle.la_base.specs.declared.samples.Rate.{Rate}
use Rattle.decoder_set.specs.declared.setup.Setup.{Setup}
use Rattle.decoder_set.specs.declared.any_machine.AnyMachine.{AnyMachine}
use Rattle.decoder_set.specs.Views.{kind_in, view_of}

-- a machine has the options that these values give its kind, at this rate
abbrev pub OwnAs : List (Option ℕ) → Rate → AnyMachine → Type 0
OwnAs values rate machine = (view_of machine).own values rate

-- a machine is of the kind that a setup names, with its options and rate
abbrev pub IsOwn : Setup → AnyMachine → Type 0
IsOwn setup machine =
    (setup.kind ≡ kind_in machine) × OwnAs setup.values.given setup.rate machine
