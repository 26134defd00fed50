use Rattle.std.proofs.Common.{◌≡◌, map, take}
use Rattle.std.specs.List.{flat_map}
use Rattle.std.specs.String.{string_bytes}
use Rattle.kind_table.specs.Kinds.{opt_row}
use Rattle.help_text.specs.Decoders.{group_told}
use Rattle.help_text.proofs.decoders.groups_told.Given as goal

abbrev pub invariant-loop-group : goal.invariant-loop-group
invariant-loop-group l = string_bytes l.text ≡ flat_map (λ group. group_told (map opt_row l.fn.rows) group.now) (take l.group-index l.fn.groups)
