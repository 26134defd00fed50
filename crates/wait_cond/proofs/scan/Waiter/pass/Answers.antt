use Rattle.la_base.specs.Samples.{samples}
use Rattle.wait_cond.proofs.Runs.{samples_are, through}
use Rattle.wait_cond.proofs.scan.Waiter.pass.Goals as goal

pub returns-clause-waits : goal.returns-clause-waits
returns-clause-waits c = λ list w none.
    let s = c.args.self.now in
    let run = c.args.run in
    through list (samples run) run.value run.len (samples_are run) s.cond s.consumed s.from s.last run.not_empty w none
