use Rattle.std.proofs.Common.{◌≡◌, ◌+◌, length, drop, map}
use Rattle.std.specs.List.{slice_split}
use Rattle.std.specs.Prelude.{◌==◌}
use Rattle.text_parts.specs.Reading.{read_parts}
use Rattle.text_parts.specs.Places.{placed_from, width}
use Rattle.stack_words.specs.Accepting.{names_of, shown_at}
use Rattle.stack_words.specs.Meaning.{instance_of}
use Rattle.stack_words.proofs.shown.read_names.Given as goal

abbrev pub invariant-loop-name : goal.invariant-loop-name
invariant-loop-name l = record {
  can_next : (goal.iterator-loop-name).can_next l.name-iterator;
  is_finite : (goal.iterator-loop-name).is_finite l.name-iterator;
  reads : names_of (map instance_of l.instances) l.word l.fn.text
      ≡ read_parts (shown_at (map instance_of l.instances) l.word) l.places.items (placed_from l.at (drop (length l.yielded) (slice_split (λ b. b == 44) l.fn.text)));
  place : l.at + width (drop (length l.yielded) (slice_split (λ b. b == 44) l.fn.text)) ≡ length l.fn.text + 1;
}
