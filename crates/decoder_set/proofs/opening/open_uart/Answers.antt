use Rattle.std.proofs.Common.{◌≡◌, ◌≤◌, ◌*◌, ◌∙◌, ℕ, false, sym, subst, arith}
use Rattle.std.specs.Prelude.{nat_lt}
use Rattle.std.proofs.lemmas.Bool.Decides.{nat_tests}
use Rattle.dec_uart.specs.Opening as uart
use Rattle.dec_uart.specs.Ranges.{FastEnough}
use Rattle.dec_uart.specs.declared.held.Uart.{Uart}
use Rattle.dec_uart.specs.declared.options.UartOpts.{UartOpts}
use Rattle.decoder_set.specs.Options.{uart_options}
use Rattle.decoder_set.specs.Views.{IsUart}
use Rattle.decoder_set.proofs.opening.open_uart.Goals as goal

pub returns-in-Ok-clause-opens : goal.returns-in-Ok-clause-opens
returns-in-Ok-clause-opens c =
    let opened = c.in-Ok.ensures in
    let options = uart_options c.args.values.now.given in
    record {
      own = subst (λ (machine : Uart). IsUart options c.args.rate (uart.line_of machine)) (sym c.new.ensures.machine) (opened.2 ∙ c.uart_options.ensures.options, opened.3);
      consumed = c.new.ensures.stands;
    }

not_below : (one other : ℕ) → other ≤ one → nat_lt one other ≡ false
not_below one other least = grind (arith, nat_tests)

pub returns-in-Ok-clause-fast : goal.returns-in-Ok-clause-fast
returns-in-Ok-clause-fast c =
    let options = uart_options c.args.values.now.given in
    let rate = c.args.rate in
    not_below (options.sp * rate.num) (100 * options.baud * rate.den) (subst (λ (opts : UartOpts). FastEnough opts rate) c.uart_options.ensures.options c.in-Ok.ensures.1)
