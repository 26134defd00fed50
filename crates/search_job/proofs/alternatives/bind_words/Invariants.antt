use Rattle.std.proofs.Common.{◌≡◌, List, length}
use Rattle.cond_words.specs.Binding.{AllBelow, Distinct}
use Rattle.wait_cond.specs.Conds.{cond_alts}
use Rattle.cond_words.specs.Words.{Meaning}
use Rattle.search_job.specs.Chosen.{AreTerms}
use Rattle.search_job.proofs.Choosing.{ChosenSoFar}
use Rattle.search_job.proofs.alternatives.bind_words.Given as goal

abbrev pub invariant-loop-entry : goal.invariant-loop-entry
invariant-loop-entry l = record {
  so_far : (alternatives : List (List Meaning)) → AreTerms l.chains alternatives → ChosenSoFar l.names alternatives l.entry l.pins.items (cond_alts l.cond);
  distinct : Distinct l.pins.items;
  below : AllBelow (length l.names) l.pins.items;
  count : length (cond_alts l.cond) ≡ l.entry;
}
