use Rattle.std.proofs.Common.{refl}
use Rattle.dev_ds1307.specs.laws.KnowingLaws.{new_known}
use Rattle.dev_ds1307.proofs.held.Clock.new.Goals as goal

pub returns-clause-knows : goal.returns-clause-knows
returns-clause-knows c = new_known _ refl
