use Rattle.std.proofs.Common.{◌≡◌, map, take}
use Rattle.stack_words.specs.Instances.{Instance}
use Rattle.stack_words.specs.Stacks.{instances_in}
use Rattle.kind_table.specs.Kinds.{place_of}
use Rattle.ldecode.proofs.part.places.Given as goal

abbrev pub invariant-loop-instance : goal.invariant-loop-instance
invariant-loop-instance l = l.places.items ≡ map (λ (i : Instance). place_of i.kind) (take l.instance (instances_in l.stack))
