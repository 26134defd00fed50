use Rattle.std.proofs.Common.{◌-◌, ◌∙◌, ℕ, ap, sym, arith}
use Rattle.listing_out.specs.StopLines.{line_of}
use Rattle.listing_out.proofs.Mending.{mended, mends_again}
use Rattle.listing_out.proofs.stops.StopLine.put.Goals as goal

pub returns-then-at-self-lt100 : goal.returns-then-at-self-lt100
returns-then-at-self-lt100 c =
    let s = c.self.inside in
    c.set_two.ensures
    ∙ mended s.kept s.low s.hundreds s.met c.args.at (c.args.at - s.hundreds) (c.self.invariant c.if-self-gt0.true) c.if-self-gt0.true c.if-at-self-lt100.true (omega (arith, c.if-at-self.true)) (omega arith)
    ∙ ap (λ (n : ℕ). line_of (c.args.at, n)) (sym c.if-met-self.true)

pub invariant_of-self : goal.invariant_of-self
invariant_of-self c = λ some.
    let s = c.self.inside in
    mends_again s.kept s.low s.hundreds s.met c.args.at (c.args.at - s.hundreds) (c.self.invariant some) some c.if-at-self-lt100.true (omega (arith, c.if-at-self.true)) (omega arith) c.set_two.new.self s.met
    (c.set_two.ensures
    ∙ mended s.kept s.low s.hundreds s.met c.args.at (c.args.at - s.hundreds) (c.self.invariant some) some c.if-at-self-lt100.true (omega (arith, c.if-at-self.true)) (omega arith))
