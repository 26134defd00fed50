-- What a stack means.
use Rattle.std.specs.Prelude.{List, map, option_map}
use Rattle.stack_words.specs.Accepting.{Accepted}
use Rattle.stack_words.specs.Instances.{Instance}
use Rattle.stack_words.specs.Meaning.{instance_of}
use Rattle.stack_words.specs.declared.stack.Stack.{Stack}

-- its instances, what is shown, and the binary data that is wanted
abbrev pub stack_meaning : Stack → Accepted
stack_meaning stack = record {
  instances = map instance_of stack.instances.items;
  shown = option_map (λ places. places.items) stack.shown;
  binary = option_map (λ b. (b.0, b.1)) stack.binary;
}

-- the instances of a stack
abbrev pub instances_in : Stack → List Instance
instances_in stack = (stack_meaning stack).instances
