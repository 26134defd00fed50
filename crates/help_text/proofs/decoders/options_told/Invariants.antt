use Rattle.std.proofs.Common.{◌≡◌, ◌++◌, drop, map}
use Rattle.std.specs.String.{string_bytes}
use Rattle.kind_table.specs.Kinds.{opt_row}
use Rattle.help_text.specs.Decoders.{options_told}
use Rattle.help_text.proofs.decoders.options_told.Given as goal

abbrev pub invariant-loop-place : goal.invariant-loop-place
invariant-loop-place l =
    string_bytes l.text ++ options_told l.place (map (λ meaning. meaning.now) l.fn.meanings) (map opt_row (drop l.place l.fn.rows))
    ≡ options_told 0 (map (λ meaning. meaning.now) l.fn.meanings) (map opt_row l.fn.rows)
