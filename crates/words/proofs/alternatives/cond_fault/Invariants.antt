use Rattle.std.proofs.Common.{◌≡◌, map, drop}
use Rattle.text_parts.specs.Chains.{chain_of}
use Rattle.words.specs.Settings.{cond_fault}
use Rattle.words.proofs.alternatives.cond_fault.Given as goal

abbrev pub invariant-loop-chain : goal.invariant-loop-chain
invariant-loop-chain l = cond_fault (map chain_of l.chains) ≡ cond_fault (map chain_of (drop l.chain-index l.chains))
