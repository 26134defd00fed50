use Rattle.std.proofs.Common.{refl}
use Rattle.dev_ds1307.specs.laws.KnowingLaws.{reset_known}
use Rattle.dev_ds1307.proofs.device.ClockI2cDevice.reset.Goals as goal

pub returns-clause-knows : goal.returns-clause-knows
returns-clause-knows c = λ before knows. reset_known _ before refl
