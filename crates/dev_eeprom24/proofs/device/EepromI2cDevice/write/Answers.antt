use Rattle.dev_eeprom24.specs.laws.KnowingLaws.{write_known}
use Rattle.dev_eeprom24.proofs.device.EepromI2cDevice.write.Goals as goal

pub returns-clause-takes : goal.returns-clause-takes
returns-clause-takes c = λ before bytes knows. write_known c.args.self.now.chip c.args.self.now.held c.put-self.result before bytes c.args.byte c.give.new.into knows c.put-self.ensures c.give.ensures
