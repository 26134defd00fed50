use Rattle.std.proofs.Common.{sym, subst, rules, arith}
use Rattle.la_base.specs.declared.samples.TheConstants.{MOST_PINS}
use Rattle.dec_spi.specs.Opening.{InRange}
use Rattle.dec_spi.specs.declared.options.SpiOpts.{SpiOpts}
use Rattle.decoder_set.specs.laws.FitLaws.{spi_in_range}
use Rattle.decoder_set.proofs.options.spi_options.Goals as goal

pub returns-clause-options : goal.returns-clause-options
returns-clause-options c = search rules

pub returns-clause-within : goal.returns-clause-within
returns-clause-within c = subst (λ (o : SpiOpts). InRange MOST_PINS o) (sym (returns-clause-options c)) (spi_in_range MOST_PINS c.args.values.now.given (omega arith) c.requires)
