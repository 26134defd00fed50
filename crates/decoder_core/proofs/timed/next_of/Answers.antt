use Rattle.wait_cond.proofs.Timers.{timer_behind}
use Rattle.decoder_core.proofs.timed.next_of.Goals as goal

pub returns-clause-stops : goal.returns-clause-stops
returns-clause-stops g c = λ going.
    timer_behind (g.L.LogicMachine.alts c.args.machine.now) c.skip-skip.result (c.skip-skip.ensures.timer c.if-skip-eq0.false) c.args.walk.now c.args.value c.time_begun.result c.time_begun.ensures
