use Rattle.std.proofs.Common.{length}
use Rattle.la_base.specs.declared.samples.TheConstants.{MOST_PINS}
use Rattle.stack_spec.specs.BindSteps.{ArePins}
use Rattle.stack_words.specs.Stacks.{instances_in}
use Rattle.stack_spec.proofs.BoundLemmas.{BoundSoFar}
use Rattle.stack_spec.proofs.binding.bind.Given as goal

abbrev pub invariant-loop-entry : goal.invariant-loop-entry
invariant-loop-entry l = record {
  so_far : BoundSoFar MOST_PINS l.names l.rate (instances_in l.stack) l.entry l.pins.items l.machines.items l.parents.items;
  pins : ArePins MOST_PINS (length l.names) l.pins.items;
}
