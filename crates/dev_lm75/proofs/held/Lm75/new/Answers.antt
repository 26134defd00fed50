use Rattle.std.proofs.Common.{refl}
use Rattle.dev_lm75.specs.laws.KnowingLaws.{new_known}
use Rattle.dev_lm75.proofs.held.Lm75.new.Goals as goal

pub returns-clause-knows : goal.returns-clause-knows
returns-clause-knows c = new_known _ refl
