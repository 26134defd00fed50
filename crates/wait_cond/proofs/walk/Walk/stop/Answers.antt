use Rattle.std.proofs.Common.{◌≡◌, ◌+◌, ◌-◌, ◌^◌, ◌++◌, ℕ, length, subst, arith}
use Rattle.la_base.specs.Samples.{samples}
use Rattle.wait_cond.specs.Stops.{IsStop}
use Rattle.wait_cond.specs.Waiting.{WaitsAt}
use Rattle.wait_cond.proofs.Passing.{set_stopped}
use Rattle.wait_cond.proofs.walk.Walk.stop.Goals as goal

pub returns-clause-waits : goal.returns-clause-waits
returns-clause-waits c = λ alts list met w some not set stands.
    let s = c.args.self.now in
    let run = c.args.run in
    let both = set_stopped list run alts (2 ^ 60 - s.room) s.from s.last w some met not set stands in
    let left : 2 ^ 60 - s.room + run.len ≡ 2 ^ 60 - (s.room - run.len) = omega (arith, c.requires.room, s.few) in
    let here : length list + 0 ≡ length list = omega arith in
    (subst (λ (n : ℕ). IsStop (list ++ samples run) alts s.from n met) here both.0, subst (λ (n : ℕ). WaitsAt alts n (2 ^ 60 - s.room + 1) run.value (list ++ samples run)) left both.1)
