use Rattle.std.proofs.Common.{◌+◌, ◌-◌, ◌/◌, ◌%◌, ◌++◌, ◌∷◌, [], ◌∙◌, List, ℕ, ap, arith}
use Rattle.listing_out.specs.StopLines.{behind_sample}
use Rattle.listing_out.proofs.Mending.{cut_short, digits_anew}
use Rattle.listing_out.proofs.stops.StopLine.make.Goals as goal

pub push_byte-requires : goal.push_byte-requires
push_byte-requires c =
    let s = c.self.inside in
    let short = cut_short s.kept s.low s.hundreds s.met c.args.at (c.args.at - s.hundreds) (c.self.invariant c.if-self-gt0.true) c.if-self-gt0.true c.if-at-self-lt100.true (omega (arith, c.if-at-self.true)) (omega arith) c.cut.new.self c.cut.ensures in
    omega (arith, short)

pub push_byte-requires-then-at-self-lt100 : goal.push_byte-requires-then-at-self-lt100
push_byte-requires-then-at-self-lt100 c =
    let s = c.self.inside in
    let short = cut_short s.kept s.low s.hundreds s.met c.args.at (c.args.at - s.hundreds) (c.self.invariant c.if-self-gt0.true) c.if-self-gt0.true c.if-at-self-lt100.true (omega (arith, c.if-at-self.true)) (omega arith) c.cut.new.self c.cut.ensures in
    omega (arith, short, c.push_byte.ensures.grows)

pub push_behind-requires : goal.push_behind-requires
push_behind-requires c =
    let s = c.self.inside in
    let short = cut_short s.kept s.low s.hundreds s.met c.args.at (c.args.at - s.hundreds) (c.self.invariant c.if-self-gt0.true) c.if-self-gt0.true c.if-at-self-lt100.true (omega (arith, c.if-at-self.true)) (omega arith) c.cut.new.self c.cut.ensures in
    omega (arith, short, c.push_byte.ensures.grows, c.push_byte-then-at-self-lt100.ensures.grows)

pub returns-then-at-self-lt100 : goal.returns-then-at-self-lt100
returns-then-at-self-lt100 c =
    let s = c.self.inside in
    c.push_behind.ensures
    ∙ ap (λ (l : List ℕ). l ++ behind_sample c.args.met) (
    c.push_byte-then-at-self-lt100.ensures.text
    ∙ (λ i. ((c.push_byte.ensures.text ∙ ap (λ (l : List ℕ). l ++ (48 + (c.args.at - s.hundreds) / 10) ∷ []) c.cut.ensures) i) ++ (48 + (c.args.at - s.hundreds) % 10) ∷ [])
    ∙ digits_anew s.kept s.low s.hundreds s.met c.args.at (c.args.at - s.hundreds) (c.self.invariant c.if-self-gt0.true) c.if-self-gt0.true c.if-at-self-lt100.true (omega (arith, c.if-at-self.true)) (omega arith))
