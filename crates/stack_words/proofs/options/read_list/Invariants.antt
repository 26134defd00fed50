use Rattle.std.proofs.Common.{◌≡◌, ◌+◌, length, drop, map}
use Rattle.std.specs.List.{slice_split}
use Rattle.text_parts.specs.Reading.{read_parts}
use Rattle.text_parts.specs.Places.{placed_from, width}
use Rattle.kind_table.specs.Kinds.{opt_row}
use Rattle.stack_words.specs.Meaning.{given_of}
use Rattle.stack_words.specs.Options.{is_colon, option_at, option_list}
use Rattle.stack_words.proofs.options.read_list.Given as goal

abbrev pub invariant-loop-option : goal.invariant-loop-option
invariant-loop-option l = record {
  can_next : (goal.iterator-loop-option).can_next l.option-iterator;
  is_finite : (goal.iterator-loop-option).is_finite l.option-iterator;
  reads : option_list (map opt_row l.rows) l.word l.fn.at l.fn.text
      ≡ read_parts (option_at (map opt_row l.rows) l.word) (map given_of l.options.items) (placed_from l.at (drop (length l.yielded) (slice_split is_colon l.fn.text)));
  place : l.at + width (drop (length l.yielded) (slice_split is_colon l.fn.text)) ≡ l.fn.at + length l.fn.text + 1;
}
