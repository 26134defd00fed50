use Rattle.std.proofs.Common.{sym, subst, rules}
use Rattle.la_base.specs.declared.samples.TheConstants.{MOST_PINS}
use Rattle.dec_modbus.specs.Opening.{InRange}
use Rattle.dec_modbus.specs.declared.held.ModbusOpts.{ModbusOpts}
use Rattle.decoder_set.specs.laws.FitLaws.{modbus_in_range}
use Rattle.decoder_set.proofs.options.modbus_options.Goals as goal

pub returns-clause-options : goal.returns-clause-options
returns-clause-options c = search rules

pub returns-clause-within : goal.returns-clause-within
returns-clause-within c = subst (λ (o : ModbusOpts). InRange o) (sym (returns-clause-options c)) (modbus_in_range MOST_PINS c.args.values.now.given c.requires)
