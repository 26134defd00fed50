use Rattle.std.proofs.Common.{arith, length-set, ◌∙◌}
use Rattle.capture_raw.proofs.Agreeing.{table_more}
use Rattle.capture_raw.proofs.units.samples_of_bytes.Goals as goal

pub loop-byte-preserved : goal.loop-byte-preserved
loop-byte-preserved c =
    let s = c.loop-byte in
    record {
      within = omega arith;
      size = length-set s.table s.byte c.picked.result ∙ s.invariant.size;
      so_far = table_more c.args.pins.now s.table c.args.worth s.byte c.picked.result (omega (arith, s.invariant.size)) c.picked.ensures s.invariant.so_far;
    }
