use Rattle.std.proofs.Common.{◌≡◌, ◌+◌, ◌-◌, ◌<◌, max, arith}
use Rattle.wait_cond.proofs.Timers.{timer_found, timer_through}
use Rattle.wait_cond.proofs.scan.Waiter.find_timer.Goals as goal

pub returns-then-place-run-clause-found : goal.returns-then-place-run-clause-found
returns-then-place-run-clause-found c = λ list w.
    let s = c.args.self.now in
    let place = c.timer_place-place.result in
    let is : place ≡ max 1 (s.from + c.args.skip - s.consumed) - 1 = omega (arith, c.timer_place-place.ensures, c.if-place-run.true, c.requires.few) in
    timer_found s.cond c.args.skip c.requires.timer list c.args.run s.consumed s.from s.last w place is c.if-place-run.true

pub returns-else-place-run-clause-found : goal.returns-else-place-run-clause-found
returns-else-place-run-clause-found c = λ list w.
    let s = c.args.self.now in
    let run = c.args.run in
    let before : run.len < s.from + c.args.skip - s.consumed = omega (arith, c.timer_place-place.ensures, c.if-place-run.false, c.requires.few, run.not_empty) in
    timer_through s.cond c.args.skip c.requires.timer list run s.consumed s.from s.last w before
