use Rattle.std.proofs.Common.{◌≡◌, ◌+◌, ◌*◌, ℕ, arith, take, drop, ap, ◌∙◌, refl}
use Rattle.la_base.specs.declared.samples.TheConstants.{WORD_BYTES}
use Rattle.capture_raw.specs.Raw.{number}
use Rattle.capture_raw.proofs.Agreeing.{agree_from}
use Rattle.capture_raw.proofs.Parts.{same_part, agree_numbers}
use Rattle.capture_raw.proofs.wide.broad_units.Goals as goal

pub loop-at-preserved : goal.loop-at-preserved
loop-at-preserved c =
    let s = c.loop-at in
    let unit = c.args.unit in
    let mask = c.args.mask in
    let bytes = c.args.bytes.now in
    let more : (s.count + 1) * unit ≡ s.count * unit + unit = grind arith in
    let agree = agree_from mask c.broad_at.result c.broad_at-first.result c.if-broad_at-first-ne0.false in
    record {
      some = omega arith;
      at_is = omega (arith, more, s.invariant.at_is);
      within = omega arith;
      same = same_part bytes (λ k. omega (arith, c.type_inv.bytes k)) mask mask unit WORD_BYTES s.count c.requires.bytes c.requires.few (omega (arith, more, s.invariant.at_is)) (λ i below. refl)
          (agree_numbers mask (c.broad_at.ensures ∙ ap (λ (n : ℕ). number (take WORD_BYTES (drop n bytes))) s.invariant.at_is) c.broad_at-first.ensures agree) s.invariant.same;
    }
