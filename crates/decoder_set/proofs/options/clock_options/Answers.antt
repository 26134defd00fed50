use Rattle.std.proofs.Common.{sym, subst, rules}
use Rattle.la_base.specs.declared.samples.TheConstants.{MOST_PINS}
use Rattle.dev_ds1307.specs.Opening.{InRange}
use Rattle.dev_ds1307.specs.declared.chip.ClockOpts.{ClockOpts}
use Rattle.decoder_set.specs.laws.FitLaws.{clock_in_range}
use Rattle.decoder_set.proofs.options.clock_options.Goals as goal

pub returns-clause-options : goal.returns-clause-options
returns-clause-options c = search rules

pub returns-clause-within : goal.returns-clause-within
returns-clause-within c = subst (λ (o : ClockOpts). InRange o) (sym (returns-clause-options c)) (clock_in_range MOST_PINS c.args.values.now.given c.requires)
