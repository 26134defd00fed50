use Rattle.std.proofs.Common.{sym, subst, rules, arith}
use Rattle.la_base.specs.declared.samples.TheConstants.{MOST_PINS}
use Rattle.dec_onewire.specs.Opening.{LinkInRange}
use Rattle.dec_onewire.specs.declared.link.options.OwLinkOpts.{OwLinkOpts}
use Rattle.decoder_set.specs.laws.FitLaws.{link_in_range}
use Rattle.decoder_set.proofs.options.link_options.Goals as goal

pub returns-clause-options : goal.returns-clause-options
returns-clause-options c = search rules

pub returns-clause-within : goal.returns-clause-within
returns-clause-within c = subst (λ (o : OwLinkOpts). LinkInRange MOST_PINS o) (sym (returns-clause-options c)) (link_in_range MOST_PINS c.args.values.now.given (omega arith) c.requires)
