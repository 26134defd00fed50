-- What the settings of a decoding ask for, and the listing of decoders that are bound.
use Rattle.std.proofs.Common.{◌≡◌, ℕ, ◌⊎◌, inr, zero, suc, List, [], ◌∷◌, length, map, Option, Some, None, Ok, Err, refl, sym, ◌∙◌, ap, ap₂, subst, Bor}
use Rattle.std.specs.Prelude.{option_map, slice_get}
use Rattle.std.specs.Option.{option_copied}
use Rattle.std.proofs.lemmas.List.{length-map}
use Rattle.la_base.specs.declared.samples.Rate.{Rate}
use Rattle.la_base.specs.declared.samples.TheConstants.{MOST_PINS}
use Rattle.decoder_core.specs.Trees.{Node}
use Rattle.decoder_set.specs.Opening.{setup_of}
use Rattle.decoder_set.specs.declared.any.AnyDecoder.{AnyDecoder}
use Rattle.decoder_set.specs.declared.setup.Setup.{Setup}
use Rattle.text_parts.specs.Chains.{chain_of}
use Rattle.text_parts.specs.declared.chain.ChainWord.{ChainWord}
use Rattle.words.specs.Settings.{Values, meaning_of}
use Rattle.words.specs.declared.settings.Settings.{Settings}
use Rattle.tree_runs.specs.Passing.{IsForest as IsTree}
use Rattle.tree_runs.specs.Runs.{nodes_of as tree_nodes}
use Rattle.stack_words.specs.Accepting.{Accepted, stack_of}
use Rattle.stack_spec.specs.BindSteps.{IsBound}
use Rattle.stack_spec.specs.Binding.{BoundInstance, bound_of}
use Rattle.stack_words.specs.Instances.{Instance}
use Rattle.stack_words.specs.Sound.{HasParent, IsForest}
use Rattle.stack_words.specs.Stacks.{stack_meaning}
use Rattle.stack_spec.specs.declared.bound.Bound.{Bound}
use Rattle.cond_words.specs.declared.faults.BindFault.{BindFault}
use Rattle.stack_words.specs.declared.stack.Stack.{Stack}
use Rattle.run_asks.specs.Asking.{AsksStack, HasStack, SearchRefused, StackRefused, Stacks, nodes_of, setups_in}

-- a value of an option, as the code hands it on
seen_value : (seen : Option (Bor ChainWord)) (kept : Option ChainWord) → option_copied seen ≡ kept → option_map (λ (chain : Bor ChainWord). chain_of chain.now) seen ≡ option_map chain_of kept
seen_value None kept is = ap (option_map chain_of) is
seen_value (Some chain) kept is = ap (option_map chain_of) is

-- a decoding has its stack
pub the_stack : (settings : Settings) (chains : List ChainWord) (seen wanted : Option (Bor ChainWord)) (stack : Stack) → HasStack settings.job → chains ≡ settings.chains.items → option_copied seen ≡ settings.show → option_copied wanted ≡ settings.binary
    → stack_of (map chain_of chains) (option_map (λ (chain : Bor ChainWord). chain_of chain.now) seen) (option_map (λ (chain : Bor ChainWord). chain_of chain.now) wanted) ≡ Ok (stack_meaning stack) → Stacks (meaning_of settings) (stack_meaning stack)
the_stack settings chains seen wanted stack job chains_are show_is binary_is gives = record {
  job = job;
  stack = sym (ap₂ (λ l s. stack_of (map chain_of l) s (option_map chain_of settings.binary)) chains_are (seen_value seen settings.show show_is))
      ∙ ap (λ b. stack_of (map chain_of chains) (option_map (λ (chain : Bor ChainWord). chain_of chain.now) seen) b) (sym (seen_value wanted settings.binary binary_is))
      ∙ gives;
}

module _ (values : Values) (names : List (List ℕ)) (rate : Rate) (accepted : Accepted) (stacks : Stacks values accepted) where
  module _ (pins : List ℕ) (bounds : List BoundInstance) (bound : bound_of MOST_PINS names rate accepted.instances ≡ Ok bounds) (pins_are : pins ≡ Rattle.stack_spec.specs.Binding.stack_pins bounds)
      (nodes : List (Node Setup)) (nodes_are : nodes ≡ nodes_of accepted.instances bounds) where
    pub stack_asks : AsksStack values names rate pins accepted nodes
    stack_asks = record {
      stack = record { accepted = accepted; stacks = stacks; bounds = bounds; bound = bound };
      accepted_is = refl;
      pins_are = pins_are;
      nodes_are = nodes_are;
    }

    -- with these setups
    pub asked_setups : setups_in stack_asks.stack ≡ map (λ (b : BoundInstance). b.setup) bounds
    unfolding stack_asks
    asked_setups = refl

  pub stack_refused : (fault : BindFault) → bound_of MOST_PINS names rate accepted.instances ≡ Err fault → SearchRefused values names fault ⊎ StackRefused values names rate fault
  stack_refused fault refused = inr (record { accepted = accepted; stacks = stacks; refused = refused })

-- a stack is a forest, whose places of parents are these
pub stack_forest : (instances : List Instance) (parents : List (Option ℕ)) → IsForest instances → parents ≡ map (λ (instance : Instance). instance.parent) instances → IsTree parents
stack_forest instances parents forest is j parent at =
    let found = parent_at instances j (Some parent) (subst (λ (l : List (Option ℕ)). slice_get l j ≡ Some (Some parent)) is at) in
    let has = subst (λ (p : Option ℕ). HasParent instances j found.0 p) found.2 (forest.parents j found.0 found.1) in
    has.0
  where
    parent_at : (rest : List Instance) (k : ℕ) (p : Option ℕ) → slice_get (map (λ (instance : Instance). instance.parent) rest) k ≡ Some p → (instance : Instance) × (slice_get rest k ≡ Some instance) × (instance.parent ≡ p)
    parent_at [] k p at = absurd cc
    parent_at (instance ∷ rest) zero p at = (instance, refl, cc)
    parent_at (instance ∷ rest) (suc k) p at = parent_at rest k p at

-- decoders by setup and parent are the nodes of the stack
nodes_same : (instances : List Instance) (bounds : List BoundInstance) → tree_nodes (map (λ (b : BoundInstance). b.setup) bounds) (map (λ (instance : Instance). instance.parent) instances) ≡ nodes_of instances bounds
nodes_same [] [] = refl
nodes_same [] (b ∷ bounds) = refl
nodes_same (i ∷ instances) [] = refl
nodes_same (i ∷ instances) (b ∷ bounds) = ap (λ (rest : List (Node Setup)). (record { setup = b.setup; parent = i.parent }) ∷ rest) (nodes_same instances bounds)

module _ (names : List (List ℕ)) (rate : Rate) (instances : List Instance) (bound : Bound) (bounds : IsBound MOST_PINS names rate instances bound) where
  -- the decoders that are bound are those of the stack
  pub bound_nodes : tree_nodes (map setup_of bound.machines.items) bound.parents.items ≡ nodes_of instances bounds.read
  bound_nodes = ap₂ tree_nodes bounds.setups bounds.parents ∙ nodes_same instances bounds.read

  pub as_many_parents : length bound.parents.items ≡ length instances
  as_many_parents = ap length bounds.parents ∙ length-map instances (λ (instance : Instance). instance.parent)

  pub as_many_machines : map (λ (decoder : AnyDecoder). (setup_of decoder).kind) bound.machines.items ≡ map (λ (instance : Instance). instance.kind) instances → length bound.machines.items ≡ length instances
  as_many_machines kinds = sym (length-map bound.machines.items (λ (decoder : AnyDecoder). (setup_of decoder).kind)) ∙ ap length kinds ∙ length-map instances (λ (instance : Instance). instance.kind)
