use Rattle.std.proofs.Common.{[], ◌∷◌, refl, sym, ap}
use Rattle.dec_uart.specs.declared.held.Held.{Held}
use Rattle.dec_uart.specs.laws.Machine.{fall_alt, held_alt}
use Rattle.dec_uart.proofs.machine.UartLogicMachine.falls.Goals as goal

pub returns-in-Idle : goal.returns-in-Idle
returns-in-Idle c =
    let m = c.args.self.now in
    record {
      fall = λ some.
          let is = c.low_mask.ensures some in
          record {
            alt = fall_alt m.line.opts.rx;
            is = ap (λ (h : Held). held_alt m.line.opts m.line.rate h ∷ []) c.in-Idle.is;
            low = refl;
            high = refl;
            rise = refl;
            fall = sym is.0;
            edge = refl;
            steady = refl;
            skip = refl;
            lower = is.1;
            some = some;
          };
    }
