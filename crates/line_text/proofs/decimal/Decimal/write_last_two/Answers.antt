use Rattle.std.proofs.Common.{◌∙◌, ◌*◌, ◌/◌, ℕ, ap, sym, arith}
use Rattle.line_text.proofs.Decimals.{last_two_anew}
use Rattle.line_text.proofs.decimal.Decimal.write_last_two.Goals as goal

pub set_last_two-requires : goal.set_last_two-requires
set_last_two-requires c =
    (last_two_anew c.self.inside.digits c.self.inside.number c.args.number c.args.last c.self.invariant.digits (omega arith) (omega arith) c.requires.some (c.requires.same ∙ ap (λ (n : ℕ). n / 100) (sym c.self.view_is)) c.requires.last).0

pub invariant_of-self : goal.invariant_of-self
invariant_of-self c =
    let same = c.requires.same ∙ ap (λ (n : ℕ). n / 100) (sym c.self.view_is) in
    record {
      digits = c.set_last_two.ensures
          ∙ (last_two_anew c.self.inside.digits c.self.inside.number c.args.number c.args.last c.self.invariant.digits (omega arith) (omega arith) c.requires.some same c.requires.last).1;
      hundreds = c.self.invariant.hundreds ∙ ap (λ (n : ℕ). n * 100) (sym same);
      myriads = omega (arith, c.self.invariant.myriads, same);
    }
