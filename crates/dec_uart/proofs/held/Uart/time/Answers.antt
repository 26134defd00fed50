use Rattle.std.proofs.Common.{◌-◌, ◌<◌, ℕ, min, sym, ◌∙◌, ap, arith}
use Rattle.dec_uart.specs.Frames.{bit_point}
use Rattle.dec_uart.specs.laws.Machine.{held_time}
use Rattle.dec_uart.specs.declared.held.Held.{Held}
use Rattle.dec_uart.proofs.PointLaws.{at_point, last_few}
use Rattle.dec_uart.proofs.held.Uart.time.Goals as goal

pub returns-in-Inside : goal.returns-in-Inside
returns-in-Inside c =
    let s = c.args.self.now in
    let within : c.min.result < 13 = omega (arith, c.min.ensures, s.last_is, last_few s.line.opts s.line.in_range) in
    c.saturating_sub.ensures
    ∙ ap (λ (n : ℕ). n - c.in-Inside.reached)
    (at_point s.line.opts s.line.rate s.points c.min.result s.points_are within
    ∙ ap (λ (n : ℕ). bit_point s.line.opts s.line.rate n) (c.min.ensures ∙ ap (λ (n : ℕ). min c.in-Inside.points n) s.last_is))
    ∙ sym (ap (λ (h : Held). held_time s.line.opts s.line.rate h) c.in-Inside.is)
