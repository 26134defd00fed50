use Rattle.std.proofs.Common.{sym, subst, rules}
use Rattle.la_base.specs.declared.samples.TheConstants.{MOST_PINS}
use Rattle.dev_eeprom24.specs.Opening.{InRange}
use Rattle.dev_eeprom24.specs.declared.chip.EepromOpts.{EepromOpts}
use Rattle.decoder_set.specs.laws.FitLaws.{eeprom_in_range}
use Rattle.decoder_set.proofs.options.eeprom_options.Goals as goal

pub returns-clause-options : goal.returns-clause-options
returns-clause-options c = search rules

pub returns-clause-within : goal.returns-clause-within
returns-clause-within c = subst (λ (o : EepromOpts). InRange o) (sym (returns-clause-options c)) (eeprom_in_range MOST_PINS c.args.values.now.given c.requires)
