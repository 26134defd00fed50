use Rattle.std.proofs.Common.{sym, subst, ◌+◌, ◌≤◌, length}
use Rattle.la_base.specs.Runs.{samples_of}
use Rattle.capture_raw.specs.Reader.{raw_given}
use Rattle.capture_vcd.specs.Reader.{vcd_given}
use Rattle.capture_csv.specs.Reader.{csv_given}
use Rattle.capture_any.specs.Reading.{given_in}
use Rattle.capture_any.specs.declared.reader.Reader.{Reader}
use Rattle.capture_any.specs.declared.reader.Reader.TheVariants.{Vcd as OfVcd, Csv as OfCsv}
use Rattle.capture_any.proofs.Taking.{gave_by, gave_raw}
use Rattle.capture_any.proofs.capture.Capture.take_held.Goals as goal

pub returns-in-Raw-clause-gave : goal.returns-in-Raw-clause-gave
returns-in-Raw-clause-gave c =
    let taken = c.take_raw.ensures in
    let more = samples_of taken.gave.0 in (
      taken.gave.0,
      taken.gave.1,
      gave_raw c.args.self.now c.in-Raw.raw _ more taken.gave.2 (λ _. taken.few) c.in-Raw.is,
      subst (λ (x : Reader). given_in x + length more ≤ raw_given c.take_raw.new.reader) (sym c.in-Raw.is) taken.gave.3,
    )

pub returns-in-Vcd-clause-gave : goal.returns-in-Vcd-clause-gave
returns-in-Vcd-clause-gave c =
    let taken = c.take_vcd.ensures in
    let more = samples_of taken.gave.0 in (
      taken.gave.0,
      taken.gave.1,
      gave_by c.args.self.now (OfVcd c.in-Vcd.reader) (OfVcd c.take_vcd.new.reader) more taken.gave.2 taken.few c.in-Vcd.is,
      subst (λ (x : Reader). given_in x + length more ≤ vcd_given c.take_vcd.new.reader) (sym c.in-Vcd.is) taken.gave.3,
    )

pub returns-in-Csv-clause-gave : goal.returns-in-Csv-clause-gave
returns-in-Csv-clause-gave c =
    let taken = c.take_csv.ensures in
    let more = samples_of taken.gave.0 in (
      taken.gave.0,
      taken.gave.1,
      gave_by c.args.self.now (OfCsv c.in-Csv.reader) (OfCsv c.take_csv.new.reader) more taken.gave.2 taken.few c.in-Csv.is,
      subst (λ (x : Reader). given_in x + length more ≤ csv_given c.take_csv.new.reader) (sym c.in-Csv.is) taken.gave.3,
    )
