use Rattle.std.proofs.Common.{map}
use Rattle.text_parts.specs.Chains.{chain_of}
use Rattle.stack_words.specs.Meaning.{instance_of}
use Rattle.stack_words.proofs.ForestLemmas.{sound_forest}
use Rattle.stack_words.proofs.SoundLemmas.{instances_sound}
use Rattle.stack_words.proofs.read.read_stack.Goals as goal

pub invariant_of-result-clause-sound : goal.invariant_of-result-clause-sound
invariant_of-result-clause-sound c = instances_sound (map chain_of c.args.chains.now) (map instance_of c.in-Ok.instances.items) c.in-Ok.ensures.gives

pub returns-clause-forest : goal.returns-clause-forest
returns-clause-forest c = sound_forest (map instance_of c.in-Ok.instances.items) (instances_sound (map chain_of c.args.chains.now) (map instance_of c.in-Ok.instances.items) c.in-Ok.ensures.gives)
