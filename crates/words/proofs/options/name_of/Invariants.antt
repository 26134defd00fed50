use Rattle.std.proofs.Common.{◌≡◌, drop, find}
use Rattle.std.specs.Str.{bytes_eq}
use Rattle.words.specs.Options.{names, row, name_of}
use Rattle.words.proofs.options.name_of.Given as goal

abbrev pub invariant-loop-option : goal.invariant-loop-option
invariant-loop-option l = find (λ name. bytes_eq (row name).name l.text) (drop l.option-index names) ≡ name_of l.text
