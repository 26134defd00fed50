use Rattle.std.proofs.Common.{◌≡◌, ◌+◌, ◌-◌, ◌<◌, ℕ, replicate, sym, ◌∙◌, subst, arith}
use Rattle.wait_cond.specs.Walks.{StopsBehind}
use Rattle.decoder_core.proofs.Striding.{awaits_pass, further, stride_pass, stride_stop}
use Rattle.decoder_core.proofs.timed.stride.Goals as goal

pub returns-then-next-clause-strides : goal.returns-then-next-clause-strides
returns-then-next-clause-strides g c =
    let m = g.L.LogicMachine in
    let i = c.loop-next.invariant in
    let left = c.loop-next.next.left in
    let walk = c.loop-next.walk in
    let run = c.args.run in
    let part = c.front-part in
    let count : run.len - c.loop-next.rest + (left + 1) ≡ run.len - (c.loop-next.rest - (left + 1)) = omega (arith, i.within, c.loop-next-test.true) in
    let fits : left < walk.room = omega (arith, i.counted, c.requires.fits, c.loop-next-test.true, walk.few) in
    stride_stop g.L.Configured.setup m.outs m.stands m.alts g.met.L.LogicMachine.quiet (g.L.Configured.setup c.args.machine.now) c.args.machine.now c.loop-next.machine c.args.walk.now walk c.stop_behind.new.self c.args.into.now c.loop-next.into
    (replicate (run.len - c.loop-next.rest) run.value) (replicate (run.len - (c.loop-next.rest - (left + 1))) run.value) part.result left i.strides i.setup
    (subst (λ (v : ℕ). StopsBehind (m.alts c.loop-next.machine) walk v left) (sym part.ensures.value) i.stops)
    (further part.result run.value (run.len - c.loop-next.rest) (run.len - (c.loop-next.rest - (left + 1))) part.ensures.value (omega (arith, part.ensures.len, count)))
    c.resume.new.self c.resume.new.into (c.consumed.result + left) run.value part.ensures.value (omega (arith, c.consumed.ensures)) part.ensures.len fits c.resume.ensures.stands c.resume.ensures.loud c.stop_behind.ensures.waits c.stop_behind.ensures.from

pub loop-next-preserved : goal.loop-next-preserved
loop-next-preserved g c =
    let m = g.L.LogicMachine in
    let i = c.loop-next.invariant in
    let left = c.loop-next.next.left in
    let walk = c.loop-next.walk in
    let run = c.args.run in
    let part = c.front-part in
    let count : run.len - c.loop-next.rest + (left + 1) ≡ run.len - (c.loop-next.rest - (left + 1)) = omega (arith, i.within, c.loop-next-test.true) in
    let fits : left < walk.room = omega (arith, i.counted, c.requires.fits, c.loop-next-test.true, walk.few) in
    record {
      setup = c.resume.ensures.setup ∙ i.setup;
      within = omega (arith, i.within);
      counted = omega (arith, i.counted, c.loop-next-test.true, c.stop_behind.ensures.walked, part.ensures.len);
      room = c.next_of-next.ensures.room c.if-next.false;
      awaits = c.next_of-next.ensures.awaits c.if-next.false;
      stops = c.next_of-next.ensures.stops c.if-next.false;
      strides =
          stride_stop g.L.Configured.setup m.outs m.stands m.alts g.met.L.LogicMachine.quiet (g.L.Configured.setup c.args.machine.now) c.args.machine.now c.loop-next.machine c.args.walk.now walk c.stop_behind.new.self c.args.into.now c.loop-next.into
          (replicate (run.len - c.loop-next.rest) run.value) (replicate (run.len - (c.loop-next.rest - (left + 1))) run.value) part.result left i.strides i.setup
          (subst (λ (v : ℕ). StopsBehind (m.alts c.loop-next.machine) walk v left) (sym part.ensures.value) i.stops)
          (further part.result run.value (run.len - c.loop-next.rest) (run.len - (c.loop-next.rest - (left + 1))) part.ensures.value (omega (arith, part.ensures.len, count)))
          c.resume.new.self c.resume.new.into (c.consumed.result + left) run.value part.ensures.value (omega (arith, c.consumed.ensures)) part.ensures.len fits c.resume.ensures.stands c.resume.ensures.loud c.stop_behind.ensures.waits c.stop_behind.ensures.from;
    }

pub returns-then-rest-eq0-clause-strides : goal.returns-then-rest-eq0-clause-strides
returns-then-rest-eq0-clause-strides g c = c.loop-next.invariant.strides

pub returns-clause-awaits : goal.returns-clause-awaits
returns-clause-awaits g c = λ going.
    let m = g.L.LogicMachine in
    let last = c.front-last in
    awaits_pass (m.alts c.loop-next.machine) c.loop-next.walk c.pass.new.self c.loop-next.next.falls c.loop-next.next.left c.loop-next.rest c.loop-next.invariant.awaits (omega (arith, c.if-rest-eq0.false)) (omega (arith, c.loop-next-test.false))
    (omega (arith, c.pass.ensures.walked, last.ensures.len)) c.pass.ensures.from

pub returns-clause-strides : goal.returns-clause-strides
returns-clause-strides g c =
    let m = g.L.LogicMachine in
    let i = c.loop-next.invariant in
    let walk = c.loop-next.walk in
    let left = c.loop-next.next.left in
    let run = c.args.run in
    let last = c.front-last in
    let count : run.len - c.loop-next.rest + last.result.len ≡ run.len - 0 = omega (arith, i.within, last.ensures.len) in
    stride_pass g.L.Configured.setup m.outs m.stands m.alts g.met.L.LogicMachine.quiet (g.L.Configured.setup c.args.machine.now) c.args.machine.now c.loop-next.machine c.args.walk.now walk c.pass.new.self c.args.into.now c.loop-next.into
    (replicate (run.len - c.loop-next.rest) run.value) (replicate (run.len - 0) run.value) last.result left i.strides i.setup
    (subst (λ (v : ℕ). StopsBehind (m.alts c.loop-next.machine) walk v left) (sym last.ensures.value) i.stops)
    (further last.result run.value (run.len - c.loop-next.rest) (run.len - 0) last.ensures.value count)
    (omega (arith, c.loop-next-test.false, last.ensures.len)) c.pass.ensures.none c.pass.ensures.from
