use Rattle.std.proofs.Common.{◌≡◌, ◌+◌, ◌≤◌, length, drop, map, vec_len}
use Rattle.std.specs.List.{slice_split}
use Rattle.std.specs.Prelude.{◌==◌}
use Rattle.text_parts.specs.Places.{width}
use Rattle.stack_words.specs.Meaning.{instance_of}
use Rattle.stack_words.proofs.LinkLemmas.{ChainSoFar}
use Rattle.stack_words.proofs.chains.read_chain.Given as goal

abbrev pub invariant-loop-part : goal.invariant-loop-part
invariant-loop-part l = record {
  can_next : (goal.iterator-loop-part).can_next l.part-iterator;
  is_finite : (goal.iterator-loop-part).is_finite l.part-iterator;
  so_far : ChainSoFar (map instance_of l.fn.instances.items) l.word (slice_split (λ b. b == 44) l.fn.text) (length l.yielded) l.at (map instance_of l.instances.items) l.parent;
  place : l.at + width (drop (length l.yielded) (slice_split (λ b. b == 44) l.fn.text)) ≡ length l.fn.text + 1;
  few : vec_len l.instances ≤ 24;
}
