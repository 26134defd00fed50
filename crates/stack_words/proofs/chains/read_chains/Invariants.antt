use Rattle.std.proofs.Common.{◌≤◌, map, vec_len}
use Rattle.text_parts.specs.Chains.{chain_of}
use Rattle.stack_words.specs.Meaning.{instance_of}
use Rattle.stack_words.proofs.LinkLemmas.{ChainsSoFar}
use Rattle.stack_words.proofs.chains.read_chains.Given as goal

abbrev pub invariant-loop-chain : goal.invariant-loop-chain
invariant-loop-chain l = record {
  so_far : ChainsSoFar (map chain_of l.chains) l.chain-index (map instance_of l.instances.items);
  few : vec_len l.instances ≤ 24;
}
