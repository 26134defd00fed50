use Rattle.std.proofs.Common.{◌≡◌, map, take}
use Rattle.std.specs.String.{string_bytes}
use Rattle.kind_table.specs.Kinds.{opt_row}
use Rattle.help_text.specs.Decoders.{asked_told}
use Rattle.help_text.proofs.decoders.asked_told.Given as goal

abbrev pub invariant-loop-one : goal.invariant-loop-one
invariant-loop-one l = string_bytes l.text ≡ asked_told (map opt_row l.fn.rows) (take l.one-index l.fn.asked)
