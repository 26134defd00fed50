use Rattle.std.proofs.Common.{◌≡◌, ◌++◌, ℕ, List, take}
use Rattle.std.specs.String.{string_bytes}
use Rattle.help_text.specs.Help.{TellsEach, TellsKind, TellsOption}
use Rattle.help_text.proofs.help.help_text.Given as goal

abbrev pub invariant-loop-name : goal.invariant-loop-name
invariant-loop-name l = (told : List ℕ) × (string_bytes l.text ≡ string_bytes l.initial.text ++ told) × TellsEach TellsOption (take l.name-index l.name-items) told

abbrev pub invariant-loop-kind : goal.invariant-loop-kind
invariant-loop-kind l = (told : List ℕ) × (string_bytes l.text ≡ string_bytes l.initial.text ++ told) × TellsEach TellsKind (take l.kind-index l.kind-items) told
