use Rattle.std.proofs.Common.{refl}
use Rattle.dev_lm75.specs.laws.KnowingLaws.{begin_known}
use Rattle.dev_lm75.proofs.device.Lm75I2cDevice.begin.Goals as goal

pub returns-clause-knows : goal.returns-clause-knows
returns-clause-knows c = λ phases knows. begin_known c.args.self.now.held _ phases knows refl
