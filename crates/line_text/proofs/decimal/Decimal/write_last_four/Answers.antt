use Rattle.std.proofs.Common.{◌∙◌, ◌/◌, ℕ, ap, sym, arith}
use Rattle.line_text.proofs.Decimals.{last_four_anew}
use Rattle.line_text.proofs.decimal.Decimal.write_last_four.Goals as goal

pub set_last_four-requires : goal.set_last_four-requires
set_last_four-requires c =
    (last_four_anew c.self.inside.digits c.self.inside.number c.args.number c.args.last c.self.invariant.digits (omega arith) (omega arith) c.requires.some (c.requires.same ∙ ap (λ (n : ℕ). n / 10000) (sym c.self.view_is)) c.requires.last).0

pub invariant_of-self : goal.invariant_of-self
invariant_of-self c =
    let same = c.requires.same ∙ ap (λ (n : ℕ). n / 10000) (sym c.self.view_is) in
    record {
      digits = c.set_last_four.ensures
          ∙ (last_four_anew c.self.inside.digits c.self.inside.number c.args.number c.args.last c.self.invariant.digits (omega arith) (omega arith) c.requires.some same c.requires.last).1;
      hundreds = omega (arith, c.requires.last, c.from.ensures);
      myriads = omega (arith, c.self.invariant.myriads, same);
    }
