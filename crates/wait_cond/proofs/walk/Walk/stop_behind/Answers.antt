use Rattle.std.proofs.Common.{◌-◌, ◌^◌, arith}
use Rattle.wait_cond.proofs.Runs.{begun}
use Rattle.wait_cond.proofs.walk.Walk.stop_behind.Goals as goal

pub returns-clause-waits : goal.returns-clause-waits
returns-clause-waits c = λ asked alts list w.
    let s = c.args.self.now in
    begun list c.args.run alts (2 ^ 60 - s.room) (2 ^ 60 - (s.room - c.args.run.len)) w.count (omega (arith, c.requires.room, s.few))
