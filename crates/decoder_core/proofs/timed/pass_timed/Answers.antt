use Rattle.std.proofs.Common.{◌+◌, take, arith}
use Rattle.la_base.specs.Runs.{samples_of}
use Rattle.la_base.proofs.RunLemmas.{samples_more}
use Rattle.wait_cond.proofs.Timers.{timer_behind}
use Rattle.decoder_core.proofs.Striding.{passes_more, timed_pass}
use Rattle.decoder_core.proofs.timed.pass_timed.Goals as goal

pub loop-place-preserved : goal.loop-place-preserved
loop-place-preserved g c =
    let m = g.L.LogicMachine in
    let i = c.loop-place.invariant in
    let machine = c.args.machine.now in
    let runs = c.args.runs.now in
    let at = c.loop-place.place in
    let walk = c.loop-place.walk in
    let left = c.loop-place.left in
    let run = c.index-runs-place.result in
    record {
      from = omega (arith, i.from);
      within = omega (arith, c.loop-place-test.true);
      some = λ none. i.some (omega (arith, none, c.pass.ensures.walked));
      timed = timed_pass (m.alts machine) walk c.pass.new.self left run.len i.timed run.not_empty (omega (arith, c.if-run-left.false)) c.pass.ensures.walked c.pass.ensures.from;
      passes = passes_more g.L.Configured.setup m.outs m.stands m.alts g.met.L.LogicMachine.quiet machine c.args.walk.now walk c.pass.new.self (samples_of (take c.args.from runs)) (samples_of (take at runs)) (samples_of (take (at + 1) runs)) run left i.passes
          (timer_behind (m.alts machine) i.timed.skip i.timed.timer walk run.value left i.timed.left_is)
          (samples_more runs at run (omega (arith, c.loop-place-test.true)) c.index-runs-place.is) (omega (arith, c.if-run-left.false)) c.pass.ensures.none c.pass.ensures.from;
    }
