use Rattle.std.proofs.Common.{◌≡◌, ◌<◌, ◌^◌, ◌-◌, ◌*◌, ◌/◌, ◌++◌, ◌∙◌, List, ℕ, ap, refl, arith, length}
use Rattle.std.specs.Fmt.{decimal}
use Rattle.listing_out.specs.StopLines.{behind_sample}
use Rattle.listing_out.proofs.Mending.{some_two, whole_mends}
use Rattle.listing_out.proofs.stops.StopLine.make_whole.Goals as goal

pub overflow_sub-self : goal.overflow_sub-self
overflow_sub-self c =
    let digits : c.bytes-digits.result.now ≡ decimal c.args.at =
    c.bytes-digits.ensures.bytes ∙ c.push_short.ensures.text ∙ (λ i. c.clear.ensures i ++ (c.text.ensures ∙ ap decimal c.set.ensures) i) in
    omega (arith, ap length digits, some_two c.args.at c.if-at-lt100.false (omega arith))

pub invariant_of-self : goal.invariant_of-self
invariant_of-self c = λ some. absurd (omega arith)

pub invariant_of-self-2 : goal.invariant_of-self-2
invariant_of-self-2 c = λ some.
    let digits : c.bytes-digits.result.now ≡ decimal c.args.at =
    c.bytes-digits.ensures.bytes ∙ c.push_short.ensures.text ∙ (λ i. c.clear.ensures i ++ (c.text.ensures ∙ ap decimal c.set.ensures) i) in
    let fits : c.args.at < 2 ^ 64 = omega arith in
    whole_mends c.push_behind.new.line c.args.at (length c.bytes-digits.result.now - 2) (c.args.at / 100 * 100) c.args.met c.if-at-lt100.false fits
    (c.push_behind.ensures ∙ ap (λ (l : List ℕ). l ++ behind_sample c.args.met) (c.set-2.ensures ∙ digits))
    (omega (arith, ap length digits, some_two c.args.at c.if-at-lt100.false fits))
    refl
