use Rattle.dev_lm75.specs.laws.KnowingLaws.{read_known}
use Rattle.dev_lm75.proofs.device.Lm75I2cDevice.read.Goals as goal

pub returns-clause-takes : goal.returns-clause-takes
returns-clause-takes c = λ before bytes knows. read_known c.args.self.now.held _ before bytes c.args.byte c.get.new.into knows (λ i. record { pointer = c.args.self.now.held.pointer; part = c.next_part.ensures i }) c.get.ensures
