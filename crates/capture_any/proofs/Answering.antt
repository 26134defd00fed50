-- What a capture's answers mean, from those of its reader.
use Rattle.std.proofs.Common.{◌≡◌, ℕ, ◌≤◌, ◌^◌, Bool, List, [], ◌++◌, refl, sym, subst, Option, Some, None, Result, Ok, Err}
use Rattle.std.specs.Io.KnownBytes.{IsAtEnd}
use Rattle.la_base.specs.declared.samples.Rate.{Rate}
use Rattle.la_base.specs.declared.samples.Run.{Run}
use Rattle.la_io.specs.declared.fault.CaptureError.{CaptureError}
use Rattle.la_io.specs.declared.fault.CaptureError.TheVariants.{Fault, Read, NoMemory}
use Rattle.la_io.specs.declared.outside.Failed.{Failed}
use Rattle.la_io.specs.Reading.{Reads, step_of}
use Rattle.la_io.specs.Capture.{Told, AtEnd, Cut, Good}
use Rattle.capture_raw.specs.Reader.{Next as RawNext, Stands as RawStands, Means, ToldEnd, raw_given}
use Rattle.capture_vcd.specs.Reader.{Gives as VcdGives, StepAnswers, vcd_given}
use Rattle.capture_vcd.specs.declared.reader.VcdReader.{VcdReader}
use Rattle.capture_csv.proofs.Stepping.{reader_few}
use Rattle.capture_csv.specs.Csv.{csv_capture}
use Rattle.capture_csv.specs.Opening.{IsNew, Opens as CsvOpens}
use Rattle.capture_csv.specs.Reader.{Gives as CsvGives, StepAnswers as CsvAnswers, csv_given, csv_names, csv_rate}
use Rattle.la_base.specs.declared.modes.CsvMode.{CsvMode}
use Rattle.capture_csv.specs.declared.reader.CsvReader.{CsvReader}
use Rattle.capture_raw.specs.declared.step.RawStep.{RawStep}
use Rattle.capture_raw.specs.declared.step.RawStep.TheVariants.{Run as GaveRun, End, ShortUnit, Bytes}
use Rattle.capture_any.specs.Answers.{answer_of}
use Rattle.capture_any.specs.Captures.{capture_of}
use Rattle.capture_any.proofs.Telling.{later_cut}
use Rattle.capture_any.specs.Reading.{StandsIn, Next, Opens, Answers, Answered}
use Rattle.capture_any.specs.declared.capture.Capture.{Capture}
use Rattle.capture_any.specs.declared.form.Form.{Form}
use Rattle.capture_any.specs.declared.form.Form.TheVariants.{Csv}
use Rattle.capture_any.specs.declared.reader.NamedRaw.{NamedRaw}
use Rattle.capture_any.specs.declared.reader.Reader.{Reader}
use Rattle.capture_any.specs.declared.reader.Reader.TheVariants.{Raw as OfRaw, Vcd as OfVcd, Csv as OfCsv}

-- a capture with this reader
abbrev with_reader : Reader → Capture
with_reader reader = record { reader = reader }

module _ (s : NamedRaw) (few : raw_given s.reader ≤ 2 ^ 60) (left : Option (List ℕ)) (before bytes given : List ℕ) where
  abbrev So : Result RawStep Failed → Type 0
  So result = Answered (with_reader (OfRaw s)) left before Cut bytes given (answer_of result)

  open_now : (result : Result RawStep Failed) → Answers (with_reader (OfRaw s)) (before ++ bytes) Cut given (answer_of result) → So result
  open_now result answers = record { told = Cut; later = later_cut bytes Cut; at_end = λ e. cc; answers = answers }

  told_now : (result : Result RawStep Failed) → IsAtEnd left → Answers (with_reader (OfRaw s)) (before ++ bytes) AtEnd given (answer_of result) → So result
  told_now result at answers = record { told = AtEnd; later = later_cut bytes AtEnd; at_end = λ e. at; answers = answers }

  -- an answer of a raw reader
  means_raw : (result : Result RawStep Failed) → Means s.reader (before ++ bytes) given result → ToldEnd left result → So result
  means_raw (Ok (GaveRun run)) st told = open_now (Ok (GaveRun run)) (record { stands = (refl, st); few = few })
  means_raw (Ok End) ends told = told_now (Ok End) told (refl, ends)
  means_raw (Ok (ShortUnit at)) ends told = told_now (Ok (ShortUnit at)) told ends
  means_raw (Ok Bytes) ends told = open_now (Ok Bytes) (ends Cut)
  means_raw (Err failed) ends told = open_now (Err failed) (refl, ends)

-- a call of a raw reader
pub next_raw : (old : Capture) (r s : NamedRaw) (l m : Option (List ℕ)) (result : Result RawStep Failed) (answer : Result (Option Run) CaptureError) → RawNext r.reader s.reader l m result → raw_given s.reader ≤ 2 ^ 60
    → answer ≡ answer_of result → old.reader ≡ OfRaw r → Next old (with_reader (OfRaw s)) l m answer
next_raw old r s l m result answer next few answer_is is = record {
  bytes = next.bytes;
  consumed = next.consumed;
  answers = λ before told given at st.
      let stands : (told ≡ Cut) × RawStands r.reader before given = subst (λ (x : Reader). StandsIn x before told given) is st.stands in
      subst (λ (a : Result (Option Run) CaptureError). Answered (with_reader (OfRaw s)) m before told next.bytes given a) (sym answer_is)
      (subst (λ (t : Told). Answered (with_reader (OfRaw s)) m before t next.bytes given (answer_of result)) (sym stands.0) (means_raw s few m before next.bytes given result (next.means before given stands.1) next.told));
}

-- a call of a reader that stood for what the capture stands for, and says what the capture's answer means
module _ (old : Capture) (r s : Reader) (l m : Option (List ℕ)) (result : Result (Option Run) CaptureError) (Says : List ℕ → Told → List ℕ → Type 0) where
  next_as : Reads l m (StandsIn r) Says → old.reader ≡ r → ((all : List ℕ) (told : Told) (given : List ℕ) → Says all told given → Answers (with_reader s) all told given result) → Next old (with_reader s) l m result
  next_as reads is means = record {
    bytes = reads.bytes;
    consumed = reads.consumed;
    answers = λ before early given at st.
        let behind = reads.answers before early given at (subst (λ (x : Reader). StandsIn x before early given) is st.stands) in
        record {
          told = behind.told;
          later = record { none = behind.none; still = behind.still };
          at_end = behind.at_end;
          answers = means (before ++ reads.bytes) behind.told given behind.says;
        };
  }

-- a call of a VCD reader
pub next_vcd : (old : Capture) (r s : VcdReader) (l m : Option (List ℕ)) (result : Result (Option Run) CaptureError) → VcdGives r s l m result → vcd_given s ≤ 2 ^ 60 → old.reader ≡ OfVcd r → Next old (with_reader (OfVcd s)) l m result
next_vcd old r s l m result next few is = next_as old (OfVcd r) (OfVcd s) l m result _ next is (means result) where
  means : (result : Result (Option Run) CaptureError) (all : List ℕ) (told : Told) (given : List ℕ) → StepAnswers s all told given (step_of result) → Answers (with_reader (OfVcd s)) all told given result
  means (Ok (Some run)) all told given st = record { stands = st; few = few }
  means (Ok None) all told given ends = ends
  means (Err (Fault fault)) all told given ends = ends
  means (Err Read) all told given ends = ends
  means (Err NoMemory) all told given none = absurd none

-- a call of a CSV reader
pub next_csv : (old : Capture) (r s : CsvReader) (l m : Option (List ℕ)) (result : Result (Option Run) CaptureError) → CsvGives r s l m result → csv_given s ≤ 2 ^ 60 → old.reader ≡ OfCsv r → Next old (with_reader (OfCsv s)) l m result
next_csv old r s l m result next few is = next_as old (OfCsv r) (OfCsv s) l m result _ next is (means result) where
  means : (result : Result (Option Run) CaptureError) (all : List ℕ) (told : Told) (given : List ℕ) → CsvAnswers s all told given (step_of result) → Answers (with_reader (OfCsv s)) all told given result
  means (Ok (Some run)) all told given st = record { stands = st; few = few }
  means (Ok None) all told given ends = ends
  means (Err (Fault fault)) all told given ends = ends
  means (Err Read) all told given ends = ends
  means (Err NoMemory) all told given wants = (wants.0, wants.1, (_, wants.2.next, wants.2.needs), wants.3)

-- a CSV reader that was opened
pub opens_csv : (form : Form) (mode : CsvMode) (header : Bool) (rate : Rate) (l m : Option (List ℕ)) (reader : CsvReader) → Csv mode header rate ≡ form → CsvOpens mode header rate l m (Ok reader) → IsNew mode header rate reader
    → Opens form l m (Ok (record { reader = OfCsv reader }))
opens_csv form mode header rate l m reader is opens new =
    let opened = opens.opened in
    let names = csv_names reader in
    record {
      bytes = opens.bytes;
      consumed = opens.consumed;
      opened = (
        opened.0,
        opened.1,
        record {
          stands = opened.2;
          few = reader_few reader;
        },
        subst (λ (f : Form). (capture_of f [] opens.bytes opened.0).head ≡ Good names (csv_rate reader).num (csv_rate reader).den) is
            (subst (λ (r : Rate). (csv_capture mode header rate.num rate.den [] opens.bytes opened.0).head ≡ Good names r.num r.den) (sym new.rate_is) opened.3),
      );
    }
