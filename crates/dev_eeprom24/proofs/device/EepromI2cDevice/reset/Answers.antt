use Rattle.std.proofs.Common.{refl}
use Rattle.dev_eeprom24.specs.laws.KnowingLaws.{reset_known}
use Rattle.dev_eeprom24.proofs.device.EepromI2cDevice.reset.Goals as goal

pub returns-clause-knows : goal.returns-clause-knows
returns-clause-knows c = λ before knows. reset_known c.args.self.now.chip _ before refl
