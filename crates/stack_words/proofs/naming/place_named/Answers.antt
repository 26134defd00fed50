use Rattle.std.proofs.Common.{◌∙◌, sym}
use Rattle.std.specs.Str.{bytes_eq}
use Rattle.kind_table.proofs.ListLemmas.{position-map}
use Rattle.stack_words.specs.Instances.{name_of}
use Rattle.stack_words.specs.Meaning.{instance_of}
use Rattle.stack_words.proofs.naming.place_named.Goals as goal

pub returns-in-Some-clause-place : goal.returns-in-Some-clause-place
returns-in-Some-clause-place c =
    sym (position-map (λ instance. bytes_eq (name_of instance) c.args.name.now) instance_of c.args.instances.now ∙ sym c.position_named.ensures.place ∙ c.in-Some.is)

pub returns-in-None-clause-place : goal.returns-in-None-clause-place
returns-in-None-clause-place c =
    sym (position-map (λ instance. bytes_eq (name_of instance) c.args.name.now) instance_of c.args.instances.now ∙ sym c.position_named.ensures.place ∙ c.in-None.is)
