use Rattle.std.proofs.Common.{◌≤◌, All, length}
use Rattle.std.specs.String.{string_bytes}
use Rattle.program_tests.proofs.stacks.chains_of.Given as goal

abbrev pub invariant-loop-text : goal.invariant-loop-text
invariant-loop-text l = record {
  can_next : (goal.iterator-loop-text).can_next l.text-iterator;
  is_finite : (goal.iterator-loop-text).is_finite l.text-iterator;
  short : All (λ chain. length (string_bytes chain.text) ≤ 4096) l.chains.items;
}

abbrev pub invariant-loop-number : goal.invariant-loop-number
invariant-loop-number l = All (λ chain. length (string_bytes chain.text) ≤ 4096) l.chains.items
