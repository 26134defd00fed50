use Rattle.la_base.specs.declared.samples.TheConstants.{MOST_PINS}
use Rattle.cond_words.specs.Words.{alt_terms}
use Rattle.cond_words.proofs.BoundLemmas.{SoFar}
use Rattle.cond_words.proofs.bind.bind_alt.Given as goal

abbrev pub invariant-loop-item : goal.invariant-loop-item
invariant-loop-item l = SoFar MOST_PINS l.names l.fn.pins.items (alt_terms l.words) l.item l.pins.items l.alt
