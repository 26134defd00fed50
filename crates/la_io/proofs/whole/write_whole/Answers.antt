use Rattle.std.proofs.Common.{◌-◌, ◌≤◌, arith, take, drop, length, ◌∙◌, length-take-le, length-drop}
use Rattle.la_io.proofs.Bytes.{appends_on, take_on}
use Rattle.la_io.proofs.whole.write_whole.Goals as goal

pub loop-done-preserved : goal.loop-done-preserved
loop-done-preserved g c =
    let bytes = c.args.bytes.now in
    let rest : c.in_ok-count.count ≤ length (take (length bytes - c.loop-done.done) (drop c.loop-done.done bytes)) = c.in_ok-count.ensures.bound in
    record {
      so_far = appends_on _ _ _ _ _ _ c.loop-done.invariant.so_far c.in_ok-count.ensures.bytes (take_on bytes c.loop-done.done c.in_ok-count.count);
      within = omega (arith, rest, length-take-le (length bytes - c.loop-done.done) (drop c.loop-done.done bytes), length-drop c.loop-done.done bytes);
      same = c.in_ok-count.ensures.cause.kept ∙ c.loop-done.invariant.same;
      goes_on = g.met.K.Sink.goes_on_further _ _ _ c.loop-done.invariant.goes_on c.in_ok-count.ensures.goes_on;
    }
