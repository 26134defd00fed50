use Rattle.std.proofs.Common.{◌≡◌, ◌+◌, ◌≤◌, [], length, drop}
use Rattle.std.specs.Prelude.{◌==◌}
use Rattle.std.specs.List.{slice_split}
use Rattle.text_parts.specs.Reading.{read_parts}
use Rattle.text_parts.specs.Places.{placed_from, parts_between, width}
use Rattle.cond_words.specs.Words.{meanings}
use Rattle.cond_words.specs.Grammar.{term_at, most_terms}
use Rattle.cond_words.proofs.read.read_alt.Given as goal

abbrev pub invariant-loop-text : goal.invariant-loop-text
invariant-loop-text l = record {
  can_next : (goal.iterator-loop-text).can_next l.text-iterator;
  is_finite : (goal.iterator-loop-text).is_finite l.text-iterator;
  reads : read_parts term_at [] (parts_between 44 l.fn.word)
      ≡ read_parts term_at (meanings l.terms.items) (placed_from l.at (drop (length l.yielded) (slice_split (λ b. b == 44) l.fn.word)));
  place : l.at + width (drop (length l.yielded) (slice_split (λ b. b == 44) l.fn.word)) ≡ length l.fn.word + 1;
  few : length l.terms.items ≤ most_terms;
}
