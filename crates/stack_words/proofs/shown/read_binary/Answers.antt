use Rattle.std.proofs.Common.{◌∙◌, ℕ, List, Option, option_map, map, Bor, sym, ap}
use Rattle.std.proofs.lemmas.Option.{IfSome_then}
use Rattle.text_parts.specs.Chains.{chain_of}
use Rattle.text_parts.specs.declared.chain.ChainWord.{ChainWord}
use Rattle.stack_words.specs.Accepting.{binary_of, class_of_name, some_of}
use Rattle.stack_words.specs.Meaning.{stack_fault_in, instance_of}
use Rattle.stack_words.proofs.shown.read_binary.Goals as goal

pub returns-in-Err-clause-gives : goal.returns-in-Err-clause-gives
returns-in-Err-clause-gives c =
    let instances = map instance_of c.args.instances.now in
    IfSome_then (stack_fault_in c.in-Err.error) c.in-Err.ensures.gives (λ fault e.
    ap (λ (o : Option (Bor ChainWord)). binary_of instances (option_map (λ chain. chain_of chain.now) o)) c.in-Some.is
    ∙ ap some_of (ap (λ (t : List ℕ). class_of_name instances c.in-Some.binary.now.word t) (sym c.as_str.ensures.value) ∙ e))
