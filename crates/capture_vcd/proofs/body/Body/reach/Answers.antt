use Rattle.std.proofs.Common.{◌∙◌, ap, arith, ℤ, to_z, of_z, ◌≡◌, ◌<◌, ◌-◌, Option}
use Rattle.std.specs.Int.{w128}
use Rattle.std.proofs.lemmas.Int.{to_z_pos}
use Rattle.capture_vcd.specs.Body.{samples_before}
use Rattle.capture_vcd.specs.Running.{held_by, held_in, last_of, start_of}
use Rattle.capture_vcd.specs.declared.body.Span.{Span}
use Rattle.capture_vcd.proofs.Running.{parts_back, parts_start}
use Rattle.capture_vcd.proofs.Waiting.{all_given, parts_given, parts_held}
use Rattle.capture_vcd.proofs.body.Body.reach.Goals as goal

pub returns-in-None-clause-reaches : goal.returns-in-None-clause-reaches
returns-in-None-clause-reaches c = λ items given token free gives st.
    let s = c.args.self.now in
    let some : 0 < s.down = omega (arith, s.down_fits.0) in
    let none : held_in s ≡ 0 = ap (λ (o : Option Span). held_by o s.down) c.in-None.is in
    let time = c.args.time in
    let now : samples_before (time - time) s.down - samples_before (time - time) s.down ≡ 0 = omega arith in
    parts_given _ _ _ _ _ _ _ given _ _ now
    (parts_start s.down some _ _ _ _ _ items given token c.args.at time c.requires.few free gives (all_given s items given none st) (ap start_of c.in-None.is) (ap last_of c.in-None.is))

pub returns-then-time-span-clause-reaches : goal.returns-then-time-span-clause-reaches
returns-then-time-span-clause-reaches c = λ items given token free gives st.
    let s = c.args.self.now in
    parts_back s.down (omega (arith, s.down_fits.0)) _ _ _ _ _ items _ token c.args.at c.args.time c.requires.few free gives st c.in-Some.span.last _ _ (ap last_of c.in-Some.is) c.if-time-span.true (ap (λ (z : ℤ). to_z w128 (of_z w128 z)) c.from.ensures ∙ to_z_pos w128 c.in-Some.span.last (omega (arith, c.in-Some.span.few))) (ap (λ (z : ℤ). to_z w128 (of_z w128 z)) c.from-then-time-span.ensures ∙ to_z_pos w128 c.args.time (omega (arith, c.requires.few)))

pub returns-else-time-span-clause-reaches : goal.returns-else-time-span-clause-reaches
returns-else-time-span-clause-reaches c = λ items given token free gives st.
    let s = c.args.self.now in
    let span = c.in-Some.span in
    parts_held s.down (omega (arith, s.down_fits.0)) _ _ _ _ _ items given token c.args.at c.args.time c.requires.few free gives span.start span.given span.last (held_in s) (ap start_of c.in-Some.is) (ap last_of c.in-Some.is) span.in_order c.if-time-span.false
    (ap (λ (o : Option Span). held_by o s.down) c.in-Some.is) st
