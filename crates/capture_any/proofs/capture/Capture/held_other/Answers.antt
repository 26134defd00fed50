use Rattle.std.proofs.Common.{sym, subst, length, ◌+◌, ◌≤◌}
use Rattle.capture_csv.specs.Reader.{csv_given}
use Rattle.capture_any.specs.Reading.{given_in}
use Rattle.capture_any.specs.declared.reader.Reader.{Reader}
use Rattle.capture_vcd.specs.Reader.{vcd_given}
use Rattle.la_io.specs.Reading.{run_samples}
use Rattle.capture_any.specs.declared.reader.Reader.TheVariants.{Vcd as OfVcd, Csv as OfCsv}
use Rattle.capture_any.proofs.Taking.{csv_counts, gave_by, held_counts}
use Rattle.capture_any.proofs.capture.Capture.held_other.Goals as goal

pub returns-in-Vcd-clause-gave : goal.returns-in-Vcd-clause-gave
returns-in-Vcd-clause-gave c =
    let run = c.held_of.result in
    gave_by c.args.self.now (OfVcd c.in-Vcd.reader) (OfVcd c.held_of.new.reader) (run_samples run) c.held_of.ensures.given (λ _. c.held_of.ensures.few) c.in-Vcd.is

pub returns-in-Vcd-clause-progress : goal.returns-in-Vcd-clause-progress
returns-in-Vcd-clause-progress c =
    let new = c.held_of.new.reader in
    let run = c.held_of.result in
    subst (λ (x : Reader). given_in x + length (run_samples run) ≤ vcd_given new) (sym c.in-Vcd.is) (held_counts run _ (vcd_given new) c.held_of.ensures.counts)

pub returns-in-Csv-clause-gave : goal.returns-in-Csv-clause-gave
returns-in-Csv-clause-gave c =
    let run = c.held_csv.result in
    gave_by c.args.self.now (OfCsv c.in-Csv.reader) (OfCsv c.held_csv.new.reader) (run_samples run) c.held_csv.ensures.given (λ _. c.held_csv.ensures.few) c.in-Csv.is

pub returns-in-Csv-clause-progress : goal.returns-in-Csv-clause-progress
returns-in-Csv-clause-progress c =
    let new = c.held_csv.new.reader in
    let run = c.held_csv.result in
    subst (λ (x : Reader). given_in x + length (run_samples run) ≤ csv_given new) (sym c.in-Csv.is) (csv_counts run _ (csv_given new) c.held_csv.ensures.counts)
