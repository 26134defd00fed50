use Rattle.std.proofs.Common.{min, refl, ◌≡◌, ◌-◌, ◌^◌, arith, map}
use Rattle.la_base.specs.Samples.{samples}
use Rattle.wait_cond.specs.Waiting.{consumed_by}
use Rattle.decoder_core.specs.Inputs.{Sample, counted_samples}
use Rattle.decoder_core.proofs.Driven.{through, part_counts}
use Rattle.decoder_core.proofs.driver.Driver.pass_rest.Goals as goal

pub returns-then-rests-clause-passes : goal.returns-then-rests-clause-passes
returns-then-rests-clause-passes g c = λ is input d.
    let m = g.L.LogicMachine in
    let s = c.args.self.now in
    let rest = c.args.rest in
    let len : rest.len ≡ min rest.len (2 ^ 60 - consumed_by s.waiter) = omega (arith, c.consumed.ensures.consumed, c.if-rest-consumed.false) in
    through g.L.Configured.setup m.outs m.stands m.alts g.met.L.LogicMachine.quiet s.machine s.waiter input d c.pass.new.self (samples rest) (map Sample (samples rest))
    (part_counts g.L.Configured.setup m.outs m.stands m.alts g.met.L.LogicMachine.quiet s.machine s.waiter input d rest rest refl len)
    (c.pass.ensures.waits (counted_samples input) d.waits (c.if-rests.ensures.none refl (counted_samples input) d.waits)) c.pass.ensures.counts.from c.pass.ensures.alts

pub returns-then-passes-clause-passes : goal.returns-then-passes-clause-passes
returns-then-passes-clause-passes g c = λ is input d.
    let m = g.L.LogicMachine in
    let s = c.args.self.now in
    let rest = c.args.rest in
    let len : rest.len ≡ min rest.len (2 ^ 60 - consumed_by s.waiter) = omega (arith, c.consumed.ensures.consumed, c.if-rest-consumed.false) in
    through g.L.Configured.setup m.outs m.stands m.alts g.met.L.LogicMachine.quiet s.machine s.waiter input d c.pass-then-passes.new.self (samples rest) (map Sample (samples rest))
    (part_counts g.L.Configured.setup m.outs m.stands m.alts g.met.L.LogicMachine.quiet s.machine s.waiter input d rest rest refl len)
    (c.pass-then-passes.ensures.waits (counted_samples input) d.waits (c.if-passes.ensures.none refl (counted_samples input) d.waits)) c.pass-then-passes.ensures.counts.from c.pass-then-passes.ensures.alts
