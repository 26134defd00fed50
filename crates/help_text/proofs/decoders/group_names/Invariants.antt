use Rattle.std.proofs.Common.{◌≡◌, map, take}
use Rattle.kind_table.specs.Kinds.{opt_row}
use Rattle.help_text.specs.Decoders.{name_at}
use Rattle.help_text.proofs.decoders.group_names.Given as goal

abbrev pub invariant-loop-place : goal.invariant-loop-place
invariant-loop-place l = map (λ name. name.now) l.names.items ≡ map (λ place. name_at (map opt_row l.fn.rows) place) (take l.place-index l.fn.group)
