use Rattle.std.proofs.Common.{inl, refl, arith}
use Rattle.wait_cond.proofs.Exact.{half_one}
use Rattle.wait_cond.proofs.pair.Pair.one.Goals as goal

pub returns : goal.returns
returns c = λ all. record {
  high = half_one c.args.alt.now c.low_half.result c.low_half.ensures;
  lower = omega (arith, c.low_half.ensures);
  each = inl (record { alt = c.args.alt.now; is = refl; masks = c.of-one.ensures; again = refl; all = all; alone = refl });
}
