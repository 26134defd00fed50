use Rattle.std.proofs.Common.{◌≡◌, ◌≤◌, ◌+◌, length, map}
use Rattle.std.specs.String.{string_bytes}
use Rattle.text_parts.specs.Reading.{read_parts}
use Rattle.words.specs.Given.{used_of}
use Rattle.words.specs.Uses.{parts_from, use_at, uses_of}
use Rattle.words.proofs.reading.read_uses.Given as goal

abbrev pub invariant-loop-word : goal.invariant-loop-word
invariant-loop-word l = record {
  reads : uses_of (map string_bytes l.fn.words)
      ≡ read_parts use_at (map used_of l.uses.items) (parts_from l.number (map string_bytes l.words));
  early : l.number ≤ 257;
  count : l.number + length l.words ≡ length l.fn.words;
}

abbrev pub decreases-loop-word : goal.decreases-loop-word
decreases-loop-word l = length l.words
