use Rattle.std.proofs.Common.{◌≡◌, inl, inr, List, refl, sym, ap, subst, arith, length, get_or}
use Rattle.wait_cond.specs.Pairs.{OfAlt, SaysAll}
use Rattle.wait_cond.specs.declared.alt.Alt.{Alt}
use Rattle.std.proofs.lemmas.Nat.{and_le_l}
use Rattle.wait_cond.proofs.Exact.{half_more}
use Rattle.wait_cond.proofs.pair.Pair.with.Goals as goal

pub returns : goal.returns
returns c = λ first says all.
    let s = c.args.self.now in
    record {
      high = half_more first c.args.alt.now s.high c.low_half.result c.low_half.ensures says.high;
      lower = omega (arith, and_le_l s.high c.low_half.result, says.lower);
      each = elim says.each [
        | inl o ↦
            let same : o.alt ≡ first = sym (ap (λ (l : List Alt). get_or l 0 first) o.is) in
            inr (record {
              first = first;
              second = c.args.alt.now;
              is = refl;
              masks = subst (λ (a : Alt). OfAlt s.one a) same o.masks;
              others = c.of-two.ensures;
              all = subst (λ (a : Alt). SaysAll a) same o.all;
              also = all;
              alone = c.excludes.ensures;
            })
        | inr o ↦ absurd (omega (arith, ap (λ (l : List Alt). length l) o.is))
      ];
    }
