use Rattle.std.proofs.Common.{refl}
use Rattle.la_base.specs.Samples.{samples}
use Rattle.wait_cond.specs.Waiting.{rest_samples}
use Rattle.wait_cond.proofs.Runs.{samples_are, stop_at, through}
use Rattle.wait_cond.proofs.scan.Waiter.scan.Goals as goal

pub returns-in-Some-clause-scanned : goal.returns-in-Some-clause-scanned
returns-in-Some-clause-scanned c = λ list w.
    let s = c.args.self.now in
    let run = c.args.run in
    let found = c.in-Some.ensures.found list w in
    stop_at list (samples run) run.value run.len (samples_are run) s.cond s.consumed s.from s.last c.in-Some.k c.in-Some.met found.0 w found.1 found.2 found.3 (rest_samples c.behind.result) c.behind.ensures.samples

pub returns-in-None-clause-scanned : goal.returns-in-None-clause-scanned
returns-in-None-clause-scanned c = λ list w.
    let s = c.args.self.now in
    let run = c.args.run in
    (through list (samples run) run.value run.len (samples_are run) s.cond s.consumed s.from s.last run.not_empty w (c.in-None.ensures.found list w), refl)
