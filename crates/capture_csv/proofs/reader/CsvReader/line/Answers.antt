use Rattle.std.proofs.Common.{◌≡◌, ◌∙◌, ◌++◌, ap, sym, subst, arith, refl, length, List, [], ◌∷◌, ℕ, Option, Some, None, Result, Ok, false}
use Rattle.capture_csv.specs.declared.reader.CsvReader.{CsvReader}
use Rattle.la_base.specs.Samples.{samples}
use Rattle.la_base.specs.declared.samples.Run.{Run}
use Rattle.la_io.specs.declared.fault.CaptureFault.{CaptureFault}
use Rattle.std.proofs.lemmas.List.{append-nil}
use Rattle.csv.specs.Reading.{strip_bom}
use Rattle.capture_csv.specs.Csv.{body_of}
use Rattle.capture_csv.specs.Plain.{NeedsCsv}
use Rattle.capture_csv.specs.Reader.{csv_header}
use Rattle.capture_csv.specs.Records.{is_passed, without_marks}
use Rattle.capture_csv.specs.Running.{BodyFaulty, FieldsAnswer, row_of}
use Rattle.capture_csv.proofs.Answering.{answer_of, goes_passed, goes_taken, line_faulty, line_wants}
use Rattle.capture_csv.proofs.Trimming.{bare_line, marks_len}
use Rattle.capture_csv.proofs.reader.CsvReader.line.Goals as goal

pub record-requires-clause-few : goal.record-requires-clause-few
record-requires-clause-few c = omega (arith, ap length c.without_marks-text.ensures, marks_len c.text.result.now, c.text.ensures.room)

pub record-requires-clause-bare : goal.record-requires-clause-bare
record-requires-clause-bare c = ap (λ (l : List ℕ). strip_bom l) c.without_marks-text.ensures ∙ bare_line c.text.result.now ∙ sym c.without_marks-text.ensures

pub returns-then-is_passed-clause-says : goal.returns-then-is_passed-clause-says
returns-then-is_passed-clause-says c = λ bytes told given items first rest records head lines few fresh body.
    let s = c.args.self.now in
    let text = c.without_marks-text.ensures ∙ ap without_marks c.text.ensures.text in
    goes_passed s _ bytes told given items c.args.number first rest records head lines few fresh refl refl refl refl refl (sym (c.is_passed.ensures ∙ ap is_passed text) ∙ c.if-is_passed.true) body

pub returns-in-Ok-Ok-None-clause-says : goal.returns-in-Ok-Ok-None-clause-says
returns-in-Ok-Ok-None-clause-says c = λ bytes told given items first rest records head lines few fresh body.
    let s = c.args.self.now in
    let text = c.without_marks-text.ensures ∙ ap without_marks c.text.ensures.text in
    let form = c.in-Ok-Ok-None.ensures.form in
    let is : c.in-Ok-Ok-None.field-0 ≡ Ok None = c.in-Ok-Ok-None.field-0-is ∙ ap (λ (o : Option Run). Ok o) c.in-Ok-Ok-None.field-0-0-is in
    goes_taken s _ bytes told given items c.args.number first rest records head lines few fresh refl form.mode refl form.want refl (sym (c.is_passed.ensures ∙ ap is_passed text) ∙ c.if-is_passed.false)
    (answer_of c.record.new.self (body_of (csv_header s) first rest) given c.args.number _ _ _ _ None text is (c.in-Ok-Ok-None.ensures.says (body_of (csv_header s) first rest) given body c.requires.held) (append-nil given))

pub returns-in-Ok-Ok-Some-clause-says : goal.returns-in-Ok-Ok-Some-clause-says
returns-in-Ok-Ok-Some-clause-says c = λ bytes told given items first rest records head lines few fresh body.
    let s = c.args.self.now in
    let text = c.without_marks-text.ensures ∙ ap without_marks c.text.ensures.text in
    let form = c.in-Ok-Ok-Some.ensures.form in
    let is : c.in-Ok-Ok-Some.field-0 ≡ Ok (Some c.in-Ok-Ok-Some.run') = c.in-Ok-Ok-Some.field-0-is ∙ ap (λ (o : Option Run). Ok o) c.in-Ok-Ok-Some.field-0-0-is in
    goes_taken s _ bytes told _ items c.args.number first rest records head lines few fresh refl form.mode refl form.want refl (sym (c.is_passed.ensures ∙ ap is_passed text) ∙ c.if-is_passed.false)
    (answer_of c.record.new.self (body_of (csv_header s) first rest) given c.args.number _ _ _ _ (Some c.in-Ok-Ok-Some.run') text is (c.in-Ok-Ok-Some.ensures.says (body_of (csv_header s) first rest) given body c.requires.held) (ap (λ (r : Run). given ++ samples r) (sym c.in-Ok-Ok-Some.run-is)))

pub returns-in-Ok-Err-clause-says : goal.returns-in-Ok-Err-clause-says
returns-in-Ok-Err-clause-says c = λ bytes told given items first rest records head lines few fresh body.
    let s = c.args.self.now in
    let text = c.without_marks-text.ensures ∙ ap without_marks c.text.ensures.text in
    let form = c.in-Ok-Err.ensures.form in
    let said = c.in-Ok-Err.ensures.says (body_of (csv_header s) first rest) given body c.requires.held in
    let new : CsvReader = record { lines = s.lines; body = c.record.new.self; names = s.names; header = s.header; phase = s.phase; is_open = false; is_row = false; row = λ e. cc; fresh = λ e. cc; counted = λ e. c.requires.counted } in
    line_faulty s new bytes told given items c.args.number first rest records head lines few c.in-Ok-Err.fault (sym (c.is_passed.ensures ∙ ap is_passed text) ∙ c.if-is_passed.false) form.mode refl form.rate form.want
    (subst (λ (l : List ℕ). BodyFaulty c.record.new.self (body_of (csv_header s) first rest ++ row_of c.args.number l ∷ []) given c.in-Ok-Err.fault) text
    (subst (λ (r : Result (Option Run) CaptureFault). FieldsAnswer c.record.new.self (body_of (csv_header s) first rest ++ row_of c.args.number c.without_marks-text.result.now ∷ []) given r) c.in-Ok-Err.field-0-is said))

pub returns-in-Err-clause-says : goal.returns-in-Err-clause-says
returns-in-Err-clause-says c = λ bytes told given items first rest records head lines few fresh body.
    let s = c.args.self.now in
    let text = c.without_marks-text.ensures ∙ ap without_marks c.text.ensures.text in
    let says = c.in-Err.ensures.says in
    let new : CsvReader = record { lines = s.lines; body = c.record.new.self; names = s.names; header = s.header; phase = s.phase; is_open = false; is_row = false; row = λ e. cc; fresh = λ e. cc; counted = λ e. c.requires.counted } in
    line_wants s new bytes told given items c.args.number first rest records head lines few (subst (λ (l : List ℕ). NeedsCsv l) text says.1) c.requires.last refl says.0 refl body c.requires.held
