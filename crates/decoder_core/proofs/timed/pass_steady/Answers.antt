use Rattle.std.proofs.Common.{◌+◌, take, arith}
use Rattle.la_base.specs.Runs.{samples_of}
use Rattle.la_base.proofs.RunLemmas.{samples_more}
use Rattle.decoder_core.proofs.Striding.{passes_more}
use Rattle.decoder_core.proofs.timed.pass_steady.Goals as goal

pub loop-place-preserved : goal.loop-place-preserved
loop-place-preserved g c =
    let m = g.L.LogicMachine in
    let i = c.loop-place.invariant in
    let machine = c.args.machine.now in
    let runs = c.args.runs.now in
    let at = c.loop-place.place in
    let walk = c.loop-place.walk in
    let left = c.fall_left.result in
    let run = c.index-runs-place.result in
    record {
      from = omega (arith, i.from);
      within = omega (arith, c.loop-place-test.true);
      some = λ none. i.some (omega (arith, none, c.pass.ensures.walked));
      passes = passes_more g.L.Configured.setup m.outs m.stands m.alts g.met.L.LogicMachine.quiet machine c.args.walk.now walk c.pass.new.self (samples_of (take c.args.from runs)) (samples_of (take at runs)) (samples_of (take (at + 1) runs)) run left i.passes
          (c.fall_left.ensures (m.alts machine) c.requires.falls)
          (samples_more runs at run (omega (arith, c.loop-place-test.true)) c.index-runs-place.is) (omega (arith, c.if-run-fall_left.false)) c.pass.ensures.none c.pass.ensures.from;
    }

pub pass-requires : goal.pass-requires
pass-requires g c =
    let fits = (c.fall_left.ensures (g.L.LogicMachine.alts c.args.machine.now) c.requires.falls).fits in
    record { room = omega (arith, fits, c.if-run-fall_left.false, c.loop-place.walk.few) }
