use Rattle.std.proofs.Common.{◌≡◌, ◌+◌, ◌-◌, ◌*◌, ℕ, arith, take, drop, ap, ◌∙◌, sym}
use Rattle.std.specs.Int.{bit_at}
use Rattle.capture_raw.specs.Raw.{number}
use Rattle.capture_raw.specs.Masks.{Agree}
use Rattle.capture_raw.proofs.Agreeing.{agree_from, same_next}
use Rattle.capture_raw.proofs.wide.more_units.Goals as goal

pub loop-at-preserved : goal.loop-at-preserved
loop-at-preserved c =
    let s = c.loop-at in
    let unit = c.args.unit in
    let bytes = c.args.bytes.now in
    let more : (s.count + 1) * unit ≡ s.count * unit + unit = grind arith in
    let size : s.at + unit - s.at ≡ unit = omega arith in
    let is : c.number.result ≡ number (take unit (drop (s.count * unit) bytes)) = c.number.ensures ∙ (λ i. number (take (size i) (drop (s.invariant.at_is i) bytes))) in
    let agree = agree_from c.args.mask c.number.result c.number-first.result c.if-number-first-ne0.false in
    let next : Agree c.args.mask (number (take unit (drop (s.count * unit) bytes))) (number (take unit bytes)) =
    λ i bit. ap (λ (n : ℕ). bit_at n i) (sym is) ∙ agree i bit ∙ ap (λ (n : ℕ). bit_at n i) c.number-first.ensures in
    record {
      some = omega arith;
      at_is = omega (arith, more, s.invariant.at_is);
      within = omega arith;
      same = same_next unit c.requires.bytes c.args.mask bytes s.count (omega (arith, more, s.invariant.at_is)) next s.invariant.same;
    }
