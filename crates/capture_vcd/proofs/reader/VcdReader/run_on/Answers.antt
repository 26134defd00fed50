use Rattle.std.proofs.Common.{◌∙◌, refl}
use Rattle.la_io.proofs.Calls.{reads_as, reads_none, reads_on}
use Rattle.capture_vcd.proofs.Stepping.{same_on}
use Rattle.capture_vcd.proofs.reader.VcdReader.run_on.Goals as goal

pub body-init : goal.body-init
body-init g c = record {
  phase = c.requires.going;
  is_open = c.requires.open;
  form = record { names = refl; rate = refl; pins = refl; down = refl };
  count = refl;
  faults = refl;
  took = reads_none _ _ _ (λ before early given going. going);
}

pub body-preserved : goal.body-preserved
body-preserved g c =
    let went = rw c.in-Ok-Went.field-0-is at c.in-Ok-Went.ensures.went in
    record {
      phase = went.0;
      is_open = went.1;
      form = same_on _ _ _ (same_on _ _ _ c.body.invariant.form c.flush.ensures.form) c.in-Ok-Went.ensures.form;
      count = went.3 ∙ c.in-None.ensures.counts ∙ c.body.invariant.count;
      faults = c.in-Ok-Went.ensures.cause ∙ c.body.invariant.faults;
      took = reads_on _ _ _ _ _ _ (reads_as _ _ _ _ _ c.in-None.ensures.flushed c.body.invariant.took) (rw c.in-Ok-Went.field-0-is at c.in-Ok-Went.ensures.steps);
    }

pub returns-in-Ok-Gave-clause-next : goal.returns-in-Ok-Gave-clause-next
returns-in-Ok-Gave-clause-next g c =
    reads_on _ _ _ _ _ _ (reads_as _ _ _ _ _ c.in-None.ensures.flushed c.body.invariant.took) (rw c.in-Ok-Gave.field-0-is at c.in-Ok-Gave.ensures.steps)

pub returns-in-Ok-Over-clause-next : goal.returns-in-Ok-Over-clause-next
returns-in-Ok-Over-clause-next g c =
    reads_on _ _ _ _ _ _ (reads_as _ _ _ _ _ c.in-None.ensures.flushed c.body.invariant.took) (rw c.in-Ok-Over.field-0-is at c.in-Ok-Over.ensures.steps)

pub returns-in-Err-clause-next : goal.returns-in-Err-clause-next
returns-in-Err-clause-next g c = reads_on _ _ _ _ _ _ (reads_as _ _ _ _ _ c.in-None.ensures.flushed c.body.invariant.took) c.in-Err.ensures.steps

pub returns-in-Some-clause-next : goal.returns-in-Some-clause-next
returns-in-Some-clause-next g c = reads_as _ _ _ _ _ c.in-Some.ensures.flushed c.body.invariant.took
