use Rattle.std.proofs.Common.{◌≡◌, ◌-◌, ◌^◌, ℕ, subst, arith}
use Rattle.wait_cond.specs.Waiting.{WaitsAt}
use Rattle.wait_cond.proofs.scan.Waiter.walk.Goals as goal

pub returns-clause-waits : goal.returns-clause-waits
returns-clause-waits c = λ list w.
    let s = c.args.self.now in
    let same : s.consumed ≡ 2 ^ 60 - (2 ^ 60 - s.consumed) = omega (arith, s.few) in
    subst (λ (n : ℕ). WaitsAt s.cond n s.from s.last list) same w
