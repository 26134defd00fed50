use Rattle.std.proofs.Common.{length}
use Rattle.la_base.specs.declared.samples.TheConstants.{MOST_PINS}
use Rattle.stack_spec.specs.BindSteps.{ArePins}
use Rattle.stack_words.specs.Meaning.{instance_of}
use Rattle.stack_spec.proofs.RowLemmas.{RowsSoFar}
use Rattle.stack_spec.proofs.binding.bind_rows.Given as goal

abbrev pub invariant-loop-row : goal.invariant-loop-row
invariant-loop-row l = record {
  so_far : RowsSoFar MOST_PINS l.names l.fn.pins.items l.entry (instance_of l.instance) l.row l.pins.items l.given;
  pins : ArePins MOST_PINS (length l.names) l.pins.items;
}
