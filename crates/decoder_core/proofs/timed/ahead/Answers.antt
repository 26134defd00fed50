use Rattle.wait_cond.proofs.Timers.{timer_behind}
use Rattle.decoder_core.proofs.timed.ahead.Goals as goal

pub returns-then-next-eq0-clause-stops : goal.returns-then-next-eq0-clause-stops
returns-then-next-eq0-clause-stops c = λ alts awaits.
    let timed = awaits.timed c.if-next-eq0.true in
    timer_behind alts timed.skip timed.timer c.args.walk.now c.args.value c.args.next.left timed.left_is
