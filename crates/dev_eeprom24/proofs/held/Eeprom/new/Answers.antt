use Rattle.std.proofs.Common.{refl}
use Rattle.dev_eeprom24.specs.laws.KnowingLaws.{new_known}
use Rattle.dev_eeprom24.proofs.held.Eeprom.new.Goals as goal

pub returns-clause-knows : goal.returns-clause-knows
returns-clause-knows c = new_known c.args.chip _ refl
