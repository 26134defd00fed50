use Rattle.std.proofs.Common.{◌∙◌, ◌*◌, ◌+◌, ◌==◌, length-set, slice_index}
use Rattle.capture_csv.proofs.DigitLines.{quoted_put}
use Rattle.capture_csv.proofs.digits.put_quoted.Goals as goal

pub loop-k-preserved : goal.loop-k-preserved
loop-k-preserved c =
    let i = c.loop-k.invariant in
    let levels = c.loop-k.levels in
    let k = c.loop-k.k in
    record {
      same = length-set levels k (slice_index c.args.text.now (4 * k + 1) == 49) ∙ i.same;
      so_far = quoted_put c.args.text.now c.args.levels.now levels k c.requires.digits i.same c.loop-k-test.true i.so_far;
    }
