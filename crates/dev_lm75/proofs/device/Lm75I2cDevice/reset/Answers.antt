use Rattle.std.proofs.Common.{refl}
use Rattle.dev_lm75.specs.laws.KnowingLaws.{reset_known}
use Rattle.dev_lm75.proofs.device.Lm75I2cDevice.reset.Goals as goal

pub returns-clause-knows : goal.returns-clause-knows
returns-clause-knows c = λ before knows. reset_known _ before refl
