use Rattle.dev_ds1307.specs.laws.GivenLaws.{outs_are}
use Rattle.dev_ds1307.proofs.laws.outputs_are_by_the_definition.Goals as goal

pub returns : goal.returns
returns c = λ chip packets. outs_are chip packets
