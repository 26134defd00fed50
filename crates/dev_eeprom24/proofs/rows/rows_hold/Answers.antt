use Rattle.std.proofs.Common.{refl}
use Rattle.dev_eeprom24.specs.Eeprom.{eeprom_outs}
use Rattle.dev_eeprom24.proofs.rows.rows_hold.Goals as goal

pub returns-clause-read : goal.returns-clause-read
unfolding eeprom_outs
returns-clause-read c = refl

pub returns-clause-write : goal.returns-clause-write
unfolding eeprom_outs
returns-clause-write c = refl

pub returns-clause-reset : goal.returns-clause-reset
unfolding eeprom_outs
returns-clause-reset c = refl

pub returns-clause-kept : goal.returns-clause-kept
unfolding eeprom_outs
returns-clause-kept c = refl

pub returns-clause-long : goal.returns-clause-long
unfolding eeprom_outs
returns-clause-long c = refl

pub returns-clause-others : goal.returns-clause-others
unfolding eeprom_outs
returns-clause-others c = refl

pub returns-clause-command : goal.returns-clause-command
unfolding eeprom_outs
returns-clause-command c = refl
