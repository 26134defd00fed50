use Rattle.std.proofs.Common.{◌≡◌, map, drop}
use Rattle.std.specs.List.{find, enumerate_from}
use Rattle.std.specs.Str.{bytes_eq}
use Rattle.kind_table.specs.Kinds.{opt_row}
use Rattle.stack_words.specs.Options.{option_named}
use Rattle.stack_words.proofs.options.option_named.Given as goal

abbrev pub invariant-loop-row : goal.invariant-loop-row
invariant-loop-row l = option_named (map opt_row l.fn.rows) l.fn.name ≡ find (λ q. bytes_eq q.1.name l.fn.name) (enumerate_from l.row (map opt_row (drop l.row l.fn.rows)))
