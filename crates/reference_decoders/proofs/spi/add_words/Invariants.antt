use Rattle.std.proofs.Common.{◌≡◌, ◌++◌, map, take}
use Rattle.std.specs.List.{flat_map}
use Rattle.dec_spi.specs.Bus.{group_outs}
use Rattle.reference_decoders.specs.Happenings.{meant}
use Rattle.reference_decoders.proofs.spi.add_words.Given as goal

abbrev pub invariant-loop-group : goal.invariant-loop-group
invariant-loop-group l = l.outs.items ≡ l.initial.outs.items ++ flat_map (λ group. group_outs l.opts (map meant group.items)) (take l.group-index l.group-items)
