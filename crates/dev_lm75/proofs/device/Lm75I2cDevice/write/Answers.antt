use Rattle.dev_lm75.specs.laws.KnowingLaws.{write_known}
use Rattle.dev_lm75.proofs.device.Lm75I2cDevice.write.Goals as goal

pub returns-clause-takes : goal.returns-clause-takes
returns-clause-takes c = λ before bytes knows. write_known c.args.self.now.held _ before bytes c.args.byte c.put.new.into knows c.put_by-self.ensures c.put.ensures
