use Rattle.std.proofs.Common.{◌≡◌, ◌+◌, ◌*◌, ℕ, arith, take, drop, ap, ◌∙◌}
use Rattle.std.specs.Int.{bit_at}
use Rattle.la_base.proofs.Halves.{low_bit}
use Rattle.capture_raw.specs.Raw.{number}
use Rattle.capture_raw.proofs.Agreeing.{agree_from}
use Rattle.capture_raw.proofs.Parts.{same_part, agree_numbers}
use Rattle.capture_raw.proofs.wide.narrow_units.Goals as goal

pub loop-at-preserved : goal.loop-at-preserved
loop-at-preserved c =
    let s = c.loop-at in
    let unit = c.args.unit in
    let mask = c.args.mask in
    let bytes = c.args.bytes.now in
    let low = c.low_half-low.result in
    let more : (s.count + 1) * unit ≡ s.count * unit + unit = grind arith in
    let agree = agree_from low c.word_at.result c.word_at-first.result c.if-word_at-first-ne0.false in
    record {
      some = omega arith;
      at_is = omega (arith, more, s.invariant.at_is);
      within = omega arith;
      same = same_part bytes (λ k. omega (arith, c.type_inv.bytes k)) mask low unit 8 s.count c.requires.bytes c.requires.few (omega (arith, more, s.invariant.at_is))
          (λ i below. ap (λ (n : ℕ). bit_at n i) c.low_half-low.ensures ∙ low_bit mask i (omega (arith, below, c.requires.few)))
          (agree_numbers low (c.word_at.ensures ∙ ap (λ (n : ℕ). number (take 8 (drop n bytes))) s.invariant.at_is) c.word_at-first.ensures agree) s.invariant.same;
    }
