use Rattle.std.proofs.Common.{◌∙◌, ◌++◌, ◌≤◌, sym, ap, subst, List, ℕ, length, take, drop, ◌-◌, ◌^◌}
use Rattle.wait_cond.specs.Waiting.{wait_from}
use Rattle.decoder_core.specs.Inputs.{counted_samples, samples_in}
use Rattle.decoder_core.proofs.Counting.{counted_more}
use Rattle.decoder_core.proofs.Driven.{quiet_parts}
use Rattle.decoder_core.proofs.driver.DriverMachine.floor.Goals as goal

-- the quiet samples behind the last stop, as the machine's own clauses want them
pub returns-clause-floor : goal.returns-clause-floor
returns-clause-floor g c = λ input d more new above is.
    let m = g.L.LogicMachine in
    let s = c.args.self.now in
    let list = counted_samples input in
    let q = quiet_parts g.L.Configured.setup m.outs m.stands m.alts g.met.L.LogicMachine.quiet s.machine s.waiter input d in
    let front = take (wait_from s.waiter) list in
    let rest = drop (wait_from s.waiter) list in
    let added = take (2 ^ 60 - length list) (samples_in more) in
    let outs = m.outs (g.L.Configured.setup s.machine) in
    let next = c.consumed.ensures.consumed ∙ q.1 in
    let grown = ap (λ (l : List ℕ). outs (l ++ added)) q.2 ∙ sym (ap outs (counted_more input more)) ∙ is ∙ ap (λ (l : List ℕ). outs l ++ new) (sym q.2) in (
      c.floor.ensures.floor front rest d.machine_stands q.0 next added new grown,
      c.floor.ensures.packets front rest d.machine_stands q.0 next added new grown,
    )

pub returns-clause-near : goal.returns-clause-near
returns-clause-near g c = λ input d.
    let m = g.L.LogicMachine in
    let s = c.args.self.now in
    let list = counted_samples input in
    let q = quiet_parts g.L.Configured.setup m.outs m.stands m.alts g.met.L.LogicMachine.quiet s.machine s.waiter input d in
    subst (λ (l : List ℕ). m.near (g.L.Configured.setup s.machine) l ≤ c.floor.result) q.2
    (c.floor.ensures.near (take (wait_from s.waiter) list) (drop (wait_from s.waiter) list) d.machine_stands q.0 (c.consumed.ensures.consumed ∙ q.1))
