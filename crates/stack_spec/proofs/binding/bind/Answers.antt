use Rattle.std.proofs.Common.{◌≡◌, ◌+◌, ◌<◌, ◌≤◌, rules, ◌∙◌, ◌++◌, ◌∷◌, [], ℕ, List, Option, length, map, get_or, sym, ap, subst, arith}
use Rattle.std.specs.Prelude.{nat_le}
use Rattle.std.proofs.lemmas.List.{length-map}
use Rattle.la_base.specs.declared.samples.TheConstants.{MOST_PINS}
use Rattle.decoder_set.specs.declared.any.AnyDecoder.{AnyDecoder}
use Rattle.stack_words.specs.Instances.{Instance}
use Rattle.stack_words.specs.Meaning.{instance_of}
use Rattle.stack_words.specs.Sound.{right_from}
use Rattle.stack_words.specs.Stacks.{instances_in}
use Rattle.stack_spec.proofs.BoundLemmas.{BoundSoFar, options_right, bound_more, bound_stops, bound_ends, kinds_end}
use Rattle.stack_words.proofs.ForestLemmas.{sound_forest}
use Rattle.stack_words.proofs.LinkLemmas.{map_at}
use Rattle.stack_words.proofs.OptionLemmas.{both}
use Rattle.stack_spec.proofs.binding.bind.Goals as goal

pub bind_instance-requires-clause-fit : goal.bind_instance-requires-clause-fit
bind_instance-requires-clause-fit c =
    let stack = instances_in c.args.stack.now in
    let items = c.instances-instance-items.result.now in
    let item = c.instance-item.result in
    let k = c.loop-entry.entry in
    let same = c.instances-instance-items.ensures.instances in
    let count : length (map instance_of items) ≡ length stack = ap length same in
    let inside : k < length stack = omega (arith, c.loop-entry-test.true, length-map items instance_of, count) in
    let is : instance_of item ≡ get_or stack k (instance_of item) = map_at instance_of items k item c.loop-entry-test.true c.instance-item.is ∙ ap (λ (l : List Instance). get_or l k (instance_of item)) same in
    options_right [] stack k (instance_of item) (both (nat_le (length stack) 24) (right_from [] stack) c.instances-instance-items.ensures.sound).1 inside is

pub returns-in-Err-clause-binds : goal.returns-in-Err-clause-binds
returns-in-Err-clause-binds c =
    let stack = instances_in c.args.stack.now in
    let items = c.instances-instance-items.result.now in
    let item = c.instance-item.result in
    let k = c.loop-entry.entry in
    let same = c.instances-instance-items.ensures.instances in
    let count : length (map instance_of items) ≡ length stack = ap length same in
    let inside : k < length stack = omega (arith, c.loop-entry-test.true, length-map items instance_of, count) in
    let is : instance_of item ≡ get_or stack k (instance_of item) = map_at instance_of items k item c.loop-entry-test.true c.instance-item.is ∙ ap (λ (l : List Instance). get_or l k (instance_of item)) same in
    bound_stops MOST_PINS c.args.names.now c.args.rate stack k c.loop-entry.pins.items c.loop-entry.machines.items c.loop-entry.parents.items c.loop-entry.invariant.so_far
    (instance_of item) inside is c.in-Err.fault c.in-Err.ensures.step

pub loop-entry-preserved : goal.loop-entry-preserved
loop-entry-preserved c =
    let stack = instances_in c.args.stack.now in
    let items = c.instances-instance-items.result.now in
    let item = c.instance-item.result in
    let k = c.loop-entry.entry in
    let same = c.instances-instance-items.ensures.instances in
    let count : length (map instance_of items) ≡ length stack = ap length same in
    let inside : k < length stack = omega (arith, c.loop-entry-test.true, length-map items instance_of, count) in
    let is : instance_of item ≡ get_or stack k (instance_of item) = map_at instance_of items k item c.loop-entry-test.true c.instance-item.is ∙ ap (λ (l : List Instance). get_or l k (instance_of item)) same in
    let more = bound_more MOST_PINS c.args.names.now c.args.rate stack k c.loop-entry.pins.items c.loop-entry.machines.items c.loop-entry.parents.items c.loop-entry.invariant.so_far
    (instance_of item) inside is c.bind_instance.new.pins.items c.in-Ok.machine c.in-Ok.ensures.step in
    let machines : c.push.new.self.items ≡ c.loop-entry.machines.items ++ c.in-Ok.machine ∷ [] = search rules in
    let parents : c.push-in-Ok.new.self.items ≡ c.loop-entry.parents.items ++ item.parent ∷ [] = search rules in
    record {
      so_far = subst (λ (l : List AnyDecoder). BoundSoFar MOST_PINS c.args.names.now c.args.rate stack (k + 1) c.bind_instance.new.pins.items l c.push-in-Ok.new.self.items) (sym machines)
          (subst (λ (l : List (Option ℕ)). BoundSoFar MOST_PINS c.args.names.now c.args.rate stack (k + 1) c.bind_instance.new.pins.items (c.loop-entry.machines.items ++ c.in-Ok.machine ∷ []) l) (sym parents) more);
      pins = c.in-Ok.ensures.pins;
    }

pub returns-clause-binds : goal.returns-clause-binds
returns-clause-binds c =
    let stack = instances_in c.args.stack.now in
    let items = c.instances-instance-items.result.now in
    let k = c.loop-entry.entry in
    let count : length (map instance_of items) ≡ length stack = ap length c.instances-instance-items.ensures.instances in
    let past : length stack ≤ k = omega (arith, c.loop-entry-test.false, length-map items instance_of, count) in
    bound_ends MOST_PINS c.args.names.now c.args.rate stack k (record { machines = c.loop-entry.machines; parents = c.loop-entry.parents; pins = c.loop-entry.pins }) c.loop-entry.invariant.so_far past

pub returns-clause-kinds : goal.returns-clause-kinds
returns-clause-kinds c =
    let stack = instances_in c.args.stack.now in
    let items = c.instances-instance-items.result.now in
    let k = c.loop-entry.entry in
    let count : length (map instance_of items) ≡ length stack = ap length c.instances-instance-items.ensures.instances in
    let past : length stack ≤ k = omega (arith, c.loop-entry-test.false, length-map items instance_of, count) in
    kinds_end MOST_PINS c.args.names.now c.args.rate stack k c.loop-entry.pins.items c.loop-entry.machines.items c.loop-entry.parents.items c.loop-entry.invariant.so_far past

pub returns-clause-forest : goal.returns-clause-forest
returns-clause-forest c = sound_forest (instances_in c.args.stack.now) c.instances-instance-items.ensures.sound
