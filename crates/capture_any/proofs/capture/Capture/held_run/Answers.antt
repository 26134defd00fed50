use Rattle.std.proofs.Common.{refl, sym, subst, ◌+◌, ◌≤◌, []}
use Rattle.la_base.specs.Samples.{samples}
use Rattle.capture_raw.specs.Reader.{raw_given}
use Rattle.capture_any.specs.Reading.{given_by, given_in}
use Rattle.capture_any.specs.declared.reader.Reader.{Reader}
use Rattle.capture_any.proofs.Taking.{gave_raw, gave_same, held_some}
use Rattle.capture_any.proofs.capture.Capture.held_run.Goals as goal

pub returns-in-Some-clause-gave : goal.returns-in-Some-clause-gave
returns-in-Some-clause-gave c = gave_raw c.args.self.now c.in-Raw.raw _ (samples c.in-Some.run') c.in-Some.ensures.given (λ _. c.in-Some.ensures.few) c.in-Raw.is

pub returns-in-None-clause-gave : goal.returns-in-None-clause-gave
returns-in-None-clause-gave c = gave_raw c.args.self.now c.in-Raw.raw _ [] (gave_same c.in-Raw.raw.reader c.held_run.new.self (c.in-None.ensures.kept refl)) (λ _. c.in-None.ensures.few) c.in-Raw.is

pub returns-in-Some-clause-progress : goal.returns-in-Some-clause-progress
returns-in-Some-clause-progress c =
    let run = c.in-Some.run' in
    held_some run (given_by c.args.self.now) (raw_given c.held_run.new.self)
    (subst (λ (x : Reader). given_in x + run.len ≤ raw_given c.held_run.new.self) (sym c.in-Raw.is) c.in-Some.ensures.progress)
