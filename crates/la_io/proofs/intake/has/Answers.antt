use Rattle.std.proofs.Common.{◌==◌, ◌≤◌, arith, length, slice_index}
use Rattle.la_io.proofs.Dropping.{neither, none_more, without_none}
use Rattle.la_io.proofs.intake.has.Goals as goal

pub loop-place-preserved : goal.loop-place-preserved
loop-place-preserved c =
    let s = c.loop-place in
    let bytes = c.args.bytes.now in
    record {
      within = omega (arith, c.loop-place-test.true);
      none = λ is.
          let both = neither s.found (slice_index bytes s.place == c.args.byte) is in
          none_more bytes c.args.byte s.place (s.invariant.none both.0) both.1;
    }

pub returns : goal.returns
returns c = λ is.
    let s = c.loop-place in
    let bytes = c.args.bytes.now in
    let all : length bytes ≤ s.place = omega (arith, c.loop-place-test.false) in
    without_none bytes c.args.byte (λ k below. s.invariant.none is k (omega (arith, below, all)))
