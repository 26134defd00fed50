use Rattle.std.proofs.Common.{length}
use Rattle.cond_words.specs.Binding.{AllBelow, Distinct}
use Rattle.program_tests.proofs.searches.condition.Given as goal

abbrev pub invariant-loop-word : goal.invariant-loop-word
invariant-loop-word l = record { distinct : Distinct l.pins.items; below : AllBelow (length l.names) l.pins.items }
