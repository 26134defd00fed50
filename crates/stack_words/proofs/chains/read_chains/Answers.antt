use Rattle.std.proofs.Common.{◌≡◌, ◌<◌, ◌∙◌, ℕ, List, Result, length, map, sym, ap, subst, arith}
use Rattle.std.proofs.lemmas.Option.{IfSome_then}
use Rattle.std.proofs.lemmas.List.{length-map}
use Rattle.text_parts.specs.Chains.{chain_of}
use Rattle.stack_words.specs.Chains.{chain_by}
use Rattle.stack_words.specs.Instances.{Instance}
use Rattle.stack_words.specs.Meaning.{stack_fault_in, instance_of}
use Rattle.stack_words.specs.Steps.{Joins}
use Rattle.stack_words.specs.declared.faults.StackFault.{StackFault}
use Rattle.stack_words.proofs.LinkLemmas.{chains_more, chains_stop, map_at}
use Rattle.stack_words.proofs.chains.read_chains.Goals as goal

pub returns-in-Err-clause-gives : goal.returns-in-Err-clause-gives
returns-in-Err-clause-gives c =
    let chains = c.args.chains.now in
    let chain = c.chain-item.result in
    let k = c.loop-chain.chain-index in
    let before = map instance_of c.loop-chain.instances.items in
    let within : k < length (map chain_of chains) = omega (arith, c.loop-chain-test.true, length-map chains chain_of) in
    let own : chain_by before (chain_of chain) ≡ chain_by before (record { word = chain.word; text = c.as_str.result.now }) = ap (λ (t : List ℕ). chain_by before (record { word = chain.word; text = t })) (sym c.as_str.ensures.value) in
    IfSome_then (stack_fault_in c.in-Err.error) c.in-Err.ensures.step (λ fault e. chains_stop (map chain_of chains) k before c.loop-chain.invariant.so_far (chain_of chain) within (map_at chain_of chains k chain c.loop-chain-test.true c.chain-item.is) fault (own ∙ e))

pub loop-chain-preserved : goal.loop-chain-preserved
loop-chain-preserved c =
    let chains = c.args.chains.now in
    let chain = c.chain-item.result in
    let k = c.loop-chain.chain-index in
    let before = map instance_of c.loop-chain.instances.items in
    let new = map instance_of c.read_chain.new.instances.items in
    let within : k < length (map chain_of chains) = omega (arith, c.loop-chain-test.true, length-map chains chain_of) in
    let own : chain_by before (chain_of chain) ≡ chain_by before (record { word = chain.word; text = c.as_str.result.now }) = ap (λ (t : List ℕ). chain_by before (record { word = chain.word; text = t })) (sym c.as_str.ensures.value) in
    record {
      so_far = chains_more (map chain_of chains) k before c.loop-chain.invariant.so_far (chain_of chain) within (map_at chain_of chains k chain c.loop-chain-test.true c.chain-item.is) new (subst (λ (r : Result (List Instance) StackFault). Joins r before new) (sym own) c.in-Ok.ensures.step);
      few = c.in-Ok.ensures.few;
    }
