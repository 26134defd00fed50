use Rattle.std.proofs.Common.{◌∙◌, refl, ap, arith, ◌++◌}
use Rattle.la_base.specs.Samples.{samples}
use Rattle.la_io.specs.Reading.{step_of}
use Rattle.la_io.proofs.Calls.{reads_as, reads_none, reads_on}
use Rattle.capture_csv.specs.Reader.{csv_given, csv_lines}
use Rattle.capture_csv.specs.declared.reader.CsvReader.{CsvReader}
use Rattle.capture_csv.proofs.Answering.{runs_on}
use Rattle.capture_csv.proofs.Stepping.{same_on, unflushed}
use Rattle.capture_csv.proofs.reader.CsvReader.run_on.Goals as goal

pub body-init : goal.body-init
body-init g c = record {
  phase = c.requires.going;
  is_open = c.requires.open;
  form = record { mode = refl; header = refl; names = refl; rate = refl; pins = refl };
  count = omega arith;
  lines = omega arith;
  faults = refl;
  took = reads_none _ _ _ (λ before early given going. going);
}

pub body-preserved : goal.body-preserved
body-preserved g c =
    let same = c.in-None.ensures.flushed.0 in
    let went = rw c.in-Ok-Went.field-0-is at c.in-Ok-Went.ensures.went in
    record {
      phase = went.0;
      is_open = went.1;
      form = same_on _ _ _ (same_on _ _ _ c.body.invariant.form c.flush.ensures.form) c.in-Ok-Went.ensures.form;
      count = omega (arith, went.3, ap (λ (r : CsvReader). csv_given r) same, c.body.invariant.count);
      lines = omega (arith, c.in-Ok-Went.ensures.lines, ap (λ (r : CsvReader). csv_lines r) same, c.body.invariant.lines);
      faults = c.in-Ok-Went.ensures.cause ∙ c.body.invariant.faults;
      took = reads_on _ _ _ _ _ _ (reads_as _ _ _ _ _ (unflushed _ _ same) c.body.invariant.took) (rw c.in-Ok-Went.field-0-is at c.in-Ok-Went.ensures.steps);
    }

pub returns-in-Ok-Gave-clause-next : goal.returns-in-Ok-Gave-clause-next
returns-in-Ok-Gave-clause-next g c =
    reads_on _ _ _ _ _ _ (reads_as _ _ _ _ _ (unflushed _ _ c.in-None.ensures.flushed.0) c.body.invariant.took) (rw c.in-Ok-Gave.field-0-is at c.in-Ok-Gave.ensures.steps)

pub returns-in-Ok-Over-clause-next : goal.returns-in-Ok-Over-clause-next
returns-in-Ok-Over-clause-next g c =
    reads_on _ _ _ _ _ _ (reads_as _ _ _ _ _ (unflushed _ _ c.in-None.ensures.flushed.0) c.body.invariant.took) (rw c.in-Ok-Over.field-0-is at c.in-Ok-Over.ensures.steps)

pub returns-in-Err-clause-next : goal.returns-in-Err-clause-next
returns-in-Err-clause-next g c = reads_on _ _ _ _ _ _ (reads_as _ _ _ _ _ (unflushed _ _ c.in-None.ensures.flushed.0) c.body.invariant.took) c.in-Err.ensures.steps

pub returns-in-Err-clause-later : goal.returns-in-Err-clause-later
returns-in-Err-clause-later g c = λ is.
    omega (arith, c.in-Err.ensures.later (ap step_of is), ap (λ (r : CsvReader). csv_lines r) c.in-None.ensures.flushed.0, c.body.invariant.lines)

pub returns-in-Some-clause-next : goal.returns-in-Some-clause-next
returns-in-Some-clause-next g c =
    let run = c.in-Some.run' in
    reads_as _ _ _ _ _ (λ all told given going. runs_on c.flush.new.self all told (given ++ samples run) (c.in-Some.ensures.phase ∙ c.body.invariant.phase) (c.in-Some.ensures.flushed all told given going)) c.body.invariant.took
