use Rattle.std.proofs.Common.{◌≡◌, take}
use Rattle.clap.specs.Words.{app_of}
use Rattle.words.specs.App.{options_app}
use Rattle.words.specs.Options.{names}
use Rattle.words.proofs.command.options_command.Given as goal

abbrev pub invariant-loop-name : goal.invariant-loop-name
invariant-loop-name l = app_of l.command ≡ options_app (take l.name-index names)
