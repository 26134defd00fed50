use Rattle.std.proofs.Common.{sym, subst, rules, arith}
use Rattle.la_base.specs.declared.samples.TheConstants.{MOST_PINS}
use Rattle.dec_uart.specs.Ranges.{InRange}
use Rattle.dec_uart.specs.declared.options.UartOpts.{UartOpts}
use Rattle.decoder_set.specs.laws.FitLaws.{uart_in_range}
use Rattle.decoder_set.proofs.options.uart_options.Goals as goal

pub returns-clause-options : goal.returns-clause-options
returns-clause-options c = search rules

pub returns-clause-within : goal.returns-clause-within
returns-clause-within c = subst (λ (o : UartOpts). InRange MOST_PINS o) (sym (returns-clause-options c)) (uart_in_range MOST_PINS c.args.values.now.given (omega arith) c.requires)
