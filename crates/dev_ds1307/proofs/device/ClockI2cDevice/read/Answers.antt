use Rattle.dev_ds1307.specs.laws.KnowingLaws.{read_known}
use Rattle.dev_ds1307.proofs.device.ClockI2cDevice.read.Goals as goal

pub returns-clause-takes : goal.returns-clause-takes
returns-clause-takes c = λ before bytes knows. read_known c.args.self.now.held _ before bytes c.args.byte c.get.new.into knows c.moved-self.ensures c.get.ensures
