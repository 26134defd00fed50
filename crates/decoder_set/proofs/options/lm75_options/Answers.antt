use Rattle.std.proofs.Common.{sym, subst, rules}
use Rattle.la_base.specs.declared.samples.TheConstants.{MOST_PINS}
use Rattle.dev_lm75.specs.Opening.{InRange}
use Rattle.dev_lm75.specs.declared.chip.Lm75Opts.{Lm75Opts}
use Rattle.decoder_set.specs.laws.FitLaws.{lm75_in_range}
use Rattle.decoder_set.proofs.options.lm75_options.Goals as goal

pub returns-clause-options : goal.returns-clause-options
returns-clause-options c = search rules

pub returns-clause-within : goal.returns-clause-within
returns-clause-within c = subst (λ (o : Lm75Opts). InRange o) (sym (returns-clause-options c)) (lm75_in_range MOST_PINS c.args.values.now.given c.requires)
